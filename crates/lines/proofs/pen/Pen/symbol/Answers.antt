use Rattle.std.proofs.Common.{ℕ, List, length, sym, ap, ◌∙◌, arith}
use Rattle.lines.specs.Line.{symbol_text}
use Rattle.lines.specs.Writing.{put}
use Rattle.lines.proofs.Putting.{put_more}
use Rattle.lines.proofs.pen.Pen.symbol.Goals as goal

pub returns-clause-writes : goal.returns-clause-writes
returns-clause-writes c =
    let e = c.unfilled.ensures.value in
    let n = ap length e in
    let w = c.plain.ensures.writes in
    let l = c.plain-2.ensures.writes in (
      put_more _ _ (symbol_text c.args.bytes.now) _ _ _ _ _ (omega arith) w.0
          (ap (λ (t : List ℕ). put (c.plain.new.self.buf.now, c.plain.new.self.at) t) (sym e) ∙ l.0),
      l.1 ∙ w.1,
      l.2 ∙ w.2,
    )
