use Rattle.std.proofs.Common.{refl, arith}
use Rattle.lines.proofs.Putting.{put_written}
use Rattle.lines.proofs.pen.Pen.plain.Goals as goal

pub returns-clause-writes : goal.returns-clause-writes
returns-clause-writes c =
    let p = c.in-Ok.ensures in
    (put_written _ _ _ _ _ p.1 p.2, omega arith, refl)
