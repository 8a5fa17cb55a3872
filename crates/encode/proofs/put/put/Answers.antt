use Rattle.std.proofs.Common.{arith}
use Rattle.encode.proofs.Laying.{pasted}
use Rattle.encode.proofs.put.put.Goals as goal

pub returns : goal.returns
returns c = pasted c.args.at _ c.args.buffer.now c.copy_from_slice.new.self c.args.bytes.now (omega arith) c.copy_from_slice.ensures.after
