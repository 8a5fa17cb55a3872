use Rattle.std.proofs.Common.{◌≡◌, ℕ, List, sym, ap, ◌∙◌, subst}
use Rattle.lines.specs.Line.{summary}
use Rattle.lines.specs.Writing.{Lined}
use Rattle.listing.specs.Paging.{refusals, differences}
use Rattle.listing.proofs.listing.Listing.put_summary.Goals as goal

pub returns : goal.returns
returns c =
    let l = c.args.self.now in
    let bytes = l.capture.now in
    let same : summary l.next l.refused l.differ ≡ summary l.next (refusals l.feed bytes l.next) (differences l.feed bytes l.next) =
    ap (λ (m : ℕ). summary l.next m l.differ) l.counted ∙ ap (summary l.next (refusals l.feed bytes l.next)) l.compared in
    record {
      lined = subst (λ (t : List ℕ). Lined c.args.buf.now 0 t c.put_summary.new.buf c.put_summary.result) same c.put_summary.ensures;
      agree = sym l.compared ∙ l.agree;
    }
