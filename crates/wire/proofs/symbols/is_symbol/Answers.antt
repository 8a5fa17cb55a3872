use Rattle.std.proofs.Common.{true, false, arith}
use Rattle.std.proofs.lemmas.Grind.{common_steps}
use Rattle.wire.proofs.Ruling.{decides}
use Rattle.wire.proofs.symbols.is_symbol.Goals as goal

pub returns-then-ended-clause-rule : goal.returns-then-ended-clause-rule
returns-then-ended-clause-rule c = decides c.args.bytes.now false (grind (arith, common_steps))

pub returns-clause-rule : goal.returns-clause-rule
returns-clause-rule c = decides c.args.bytes.now true (grind (arith, common_steps))
