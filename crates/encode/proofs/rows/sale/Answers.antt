use Rattle.encode.proofs.Bytes.{long, quad}
use Rattle.encode.proofs.rows.sale.Goals as goal

pub returns-clause-bytes : goal.returns-clause-bytes
returns-clause-bytes c = cc (long c.args.m.now.match_number, long c.args.m.now.price, quad c.args.m.now.size)
