use Rattle.std.proofs.Common.{ℕ, Option, Some, None, sym, ◌∙◌, arith}
use Rattle.std.proofs.lemmas.List.{length-take, get_or_read, get_or-take}
use Rattle.ordered.specs.Rows.{front}
use Rattle.ordered.specs.SlotsLemmas.{get_there}
use Rattle.ordered.proofs.Found.{ok_is}
use Rattle.ordered.proofs.OrderedStore.get.Goals as goal

pub returns : goal.returns
returns g c =
    let t = c.args.self.now in
    let i = c.in_ok-at.at in
    let x : Option (ℕ × g.row.V.Denot) = Some (c.in_ok-value.field-0-0, c.in_ok-value.value) in
    let was = ok_is c.find.result i c.in_ok-at.ensures.value in
    let low = rw was at c.find.ensures.within in
    let is = c.index-self-at.is in
    get_there (front t.slots.now t.len) t.kept.1 c.args.key i x (omega (arith, length-take t.len t.slots.now))
    (sym (is ∙ c.in_ok-value.was) ∙ get_or_read t.slots.now i c.index-self-at.result (omega arith) is x ∙ sym (get_or-take t.len t.slots.now i x low))
    (sym was ∙ c.find.ensures.value)

pub returns-in_err-value : goal.returns-in_err-value
returns-in_err-value g c =
    let t = c.args.self.now in
    let i = c.in_ok-at.at in
    let was = ok_is c.find.result i c.in_ok-at.ensures.value in
    let low = rw was at c.find.ensures.within in
    let is = c.index-self-at.is in
    c.from_residual-in_err-value.ensures ∙ get_there (front t.slots.now t.len) t.kept.1 c.args.key i None (omega (arith, length-take t.len t.slots.now))
    (sym (is ∙ c.in_err-value.was) ∙ get_or_read t.slots.now i c.index-self-at.result (omega arith) is None ∙ sym (get_or-take t.len t.slots.now i None low))
    (sym was ∙ c.find.ensures.value)
