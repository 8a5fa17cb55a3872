use Rattle.std.proofs.Common.{◌≤◌, length, decimal, arith}
use Rattle.std.proofs.lemmas.Fmt.{length-decimal-le}
use Rattle.lines.proofs.Putting.{put_written, put_more}
use Rattle.lines.proofs.pen.Pen.number.Goals as goal

pub unreachable-requires : goal.unreachable-requires
unreachable-requires c =
    omega (arith, length-decimal-le 20 c.args.n (omega arith) (omega arith) (omega arith), c.in_default.ensures.0)

pub returns : goal.returns
returns c =
    let p = c.in-Ok.ensures in
    let d : length (decimal c.args.n) ≤ 20 = length-decimal-le 20 c.args.n (omega arith) (omega arith) (omega arith) in
    let e = p.1 in
    let w = c.plain.ensures.writes in
    record {
      writes = (put_more _ _ (decimal c.args.n) _ _ _ _ _ (omega arith) w.0 (put_written _ _ _ _ _ p.1 p.2), omega (arith, w.1), w.2);
      bound = omega (arith, c.plain.ensures.end);
    }
