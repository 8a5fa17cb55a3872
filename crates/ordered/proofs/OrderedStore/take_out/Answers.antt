use Rattle.std.proofs.Common.{None, sym, refl, ap, ◌∙◌, arith}
use Rattle.store.specs.Held.{take_out}
use Rattle.ordered.specs.Rows.{front, room, held_by}
use Rattle.ordered.specs.Slots.{pairs_of}
use Rattle.store.proofs.Writes.{same_held, write_absent}
use Rattle.ordered.specs.SlotsLemmas.{none_there, out_there, after_write}
use Rattle.ordered.proofs.Found.{was_ok, was_err}
use Rattle.ordered.proofs.OrderedStore.take_out.Goals as goal

pub returns-in_err-at-clause-after : goal.returns-in_err-at-clause-after
returns-in_err-at-clause-after g c =
    let t = c.args.self.now in
    let was = was_err c.find.result _ _ c.in_err-at.ensures.cases (λ j e. cc) in
    let gone = none_there (front t.slots.now t.len) t.kept.1 c.args.key was.0 (sym was.1 ∙ c.find.ensures.value) in
    same_held (held_by t.slots.now t.len) (take_out (held_by t.slots.now t.len) c.args.key) (sym (write_absent (pairs_of (front t.slots.now t.len)) c.args.key gone)) refl

pub invariant_of-self : goal.invariant_of-self
invariant_of-self g c =
    let t = c.args.self.now in
    let fits = t.kept.0 in
    let is = sym (was_ok c.find.result _ _ c.in_ok-at.ensures.cases c.in_ok-at.at (λ j e. cc) (λ j never. never)) ∙ c.find.ensures.value in
    let new = after_write (front t.slots.now t.len) _ c.args.key None t.kept.1 (omega arith) (c.remove.ensures.front ∙ out_there (front t.slots.now t.len) t.kept.1 c.args.key _ is) in
    record { kept = (omega (arith, c.remove.auto.slots), new.1) }

pub returns-clause-after : goal.returns-clause-after
returns-clause-after g c =
    let t = c.args.self.now in
    let is = sym (was_ok c.find.result _ _ c.in_ok-at.ensures.cases c.in_ok-at.at (λ j e. cc) (λ j never. never)) ∙ c.find.ensures.value in
    let new = after_write (front t.slots.now t.len) _ c.args.key None t.kept.1 (omega arith) (c.remove.ensures.front ∙ out_there (front t.slots.now t.len) t.kept.1 c.args.key _ is) in
    same_held _ (take_out (held_by t.slots.now t.len) c.args.key) new.0 (ap room c.remove.auto.slots)
