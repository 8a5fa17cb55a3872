use Rattle.encode.proofs.Bytes.{long, quad}
use Rattle.encode.proofs.rows.cancel.Goals as goal

pub returns-clause-bytes : goal.returns-clause-bytes
returns-clause-bytes c = cc (long c.args.m.now.reference, quad c.args.m.now.shares)
