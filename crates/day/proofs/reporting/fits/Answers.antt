use Rattle.std.proofs.Common.{ℕ, leb, List, length, sym, ap, ◌∙◌}
use Rattle.book.specs.declared.value.Stock.{Stock}
use Rattle.text.specs.declared.line.Line.{Line}
use Rattle.text.specs.Line.{line}
use Rattle.day.proofs.Reports.{text_of, line_at, too_long, fits_more}
use Rattle.day.proofs.reporting.fits.Goals as goal

pub returns-then-left-needed : goal.returns-then-left-needed
returns-then-left-needed g c =
    let is = c.width-needed.ensures.value ∙ ap (λ (l : Line). length (line l)) c.line_of.ensures in
    let left = sym (ap (λ (ps : List (ℕ × Stock)). leb (length (text_of ps)) c.loop-locate.left) c.in-Some.ensures.steps) in
    too_long (line_at (c.in-Some.locate, c.in-Some.stock)) (text_of c.next.new.self) c.loop-locate.left c.width-needed.result _ is (left ∙ c.loop-locate.invariant) c.if-left-needed.true

pub loop-locate-preserved : goal.loop-locate-preserved
loop-locate-preserved g c =
    let is = c.width-needed.ensures.value ∙ ap (λ (l : Line). length (line l)) c.line_of.ensures in
    let left = sym (ap (λ (ps : List (ℕ × Stock)). leb (length (text_of ps)) c.loop-locate.left) c.in-Some.ensures.steps) in
    fits_more (line_at (c.in-Some.locate, c.in-Some.stock)) (text_of c.next.new.self) c.loop-locate.left c.width-needed.result _ is (left ∙ c.loop-locate.invariant) c.if-left-needed.false
