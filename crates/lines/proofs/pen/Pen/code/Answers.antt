use Rattle.std.proofs.Common.{◌∙◌, arith}
use Rattle.lines.specs.Line.{code_text}
use Rattle.lines.proofs.Putting.{put_more}
use Rattle.lines.proofs.pen.Pen.code.Goals as goal

pub returns-clause-writes : goal.returns-clause-writes
returns-clause-writes c =
    let w = c.plain.ensures.writes in
    let l = c.letter.ensures.writes in
    (put_more _ _ (code_text c.args.c) _ _ _ _ _ (omega (arith, c.letter.ensures.end, c.letter.ensures.bound, c.plain.ensures.end)) w.0 l.0, l.1 ∙ w.1, l.2 ∙ w.2)
