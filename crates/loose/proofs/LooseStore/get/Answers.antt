use Rattle.std.proofs.Common.{ℕ, Option, Some, sym, ◌∙◌}
use Rattle.std.proofs.lemmas.List.{get_or_read}
use Rattle.loose.specs.Gathers.{at_held}
use Rattle.loose.proofs.Rows.{found_ok}
use Rattle.loose.proofs.LooseStore.get.Goals as goal

pub returns : goal.returns
returns g c =
    let t = c.args.self.now in
    let i = c.in_ok-at.at in
    let x : Option (ℕ × g.row.V.Denot) = Some (c.in_ok-value.field-0-0, c.in_ok-value.value) in
    let is = found_ok t.slots.now c.args.key i c.find.result c.in_ok-at.ensures.value c.find.ensures in
    at_held t.slots.now i c.args.key x t.tidy.1 is.1.0 is.0
    (sym (c.index-self-at.is ∙ c.in_ok-value.was) ∙ get_or_read t.slots.now i c.index-self-at.result is.1.0 c.index-self-at.is x)
