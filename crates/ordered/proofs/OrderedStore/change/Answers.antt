use Rattle.std.proofs.Common.{ℕ, Some, Option, sym, ap, ◌∙◌, arith}
use lib.Seq.{take-set-lt}
use Rattle.std.proofs.lemmas.List.{length-set}
use Rattle.store.specs.Held.{written}
use Rattle.ordered.specs.Rows.{front, room, held_by}
use Rattle.store.proofs.Writes.{same_held, change_free}
use Rattle.ordered.specs.SlotsLemmas.{has_there, change_there, after_write}
use Rattle.ordered.proofs.Found.{was_ok}
use Rattle.ordered.proofs.OrderedStore.change.Goals as goal

pub invariant_of-self : goal.invariant_of-self
invariant_of-self g c =
    let t = c.args.self.now in
    let fits = t.kept.0 in
    let slot : Option (ℕ × g.row.V.Denot) = Some (c.args.key, c.args.value) in
    let n = length-set t.slots.now c.in_ok-at.at slot in
    let is = was_ok c.find.result _ _ c.in_ok-at.ensures.cases c.in_ok-at.at (λ j e. cc) (λ j never. never) in
    let low = rw is at c.find.ensures.within in
    let new = after_write (front t.slots.now t.len) _ c.args.key (Some c.args.value) t.kept.1 (omega arith)
    (take-set-lt t.len t.slots.now c.in_ok-at.at slot low ∙ change_there (front t.slots.now t.len) t.kept.1 c.args.key _ c.args.value (sym is ∙ c.find.ensures.value)) in
    record { kept = (omega arith, new.1) }

pub returns-clause-after : goal.returns-clause-after
returns-clause-after g c =
    let t = c.args.self.now in
    let slot : Option (ℕ × g.row.V.Denot) = Some (c.args.key, c.args.value) in
    let n = length-set t.slots.now c.in_ok-at.at slot in
    let was = was_ok c.find.result _ _ c.in_ok-at.ensures.cases c.in_ok-at.at (λ j e. cc) (λ j never. never) in
    let is = sym was ∙ c.find.ensures.value in
    let low = rw was at c.find.ensures.within in
    let there = change_free (held_by t.slots.now t.len) c.args.key c.args.value (has_there (front t.slots.now t.len) t.kept.1 c.args.key _ is) in
    let new = after_write (front t.slots.now t.len) _ c.args.key (Some c.args.value) t.kept.1 (omega arith)
    (take-set-lt t.len t.slots.now c.in_ok-at.at slot low ∙ change_there (front t.slots.now t.len) t.kept.1 c.args.key _ c.args.value is) in
    same_held _ (written (held_by t.slots.now t.len) c.args.key (Some c.args.value)) new.0 (ap room n) ∙ there.1
