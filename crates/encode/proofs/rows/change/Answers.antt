use Rattle.encode.proofs.Bytes.{long, quad}
use Rattle.encode.proofs.rows.change.Goals as goal

pub returns-clause-bytes : goal.returns-clause-bytes
returns-clause-bytes c = cc (long c.args.old, long c.args.new, quad c.args.shares, long c.args.price)
