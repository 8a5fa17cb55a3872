use Rattle.std.proofs.Common.{arith}
use Rattle.std.proofs.lemmas.Fmt.{length-decimal-le}
use Rattle.text.proofs.pieces.number.Goals as goal

pub returns-clause-bound : goal.returns-clause-bound
returns-clause-bound c = length-decimal-le 20 c.args.value (omega arith) (omega arith) (omega arith)
