use Rattle.std.proofs.Common.{Some, ap, ◌∙◌, arith}
use Rattle.std.proofs.lemmas.List.{length-take}
use Rattle.store.specs.Held.{written}
use Rattle.ordered.specs.Rows.{front, room, held_by}
use Rattle.store.proofs.Writes.{same_held, put_full, put_free}
use Rattle.ordered.specs.SlotsLemmas.{length_pairs, none_there, put_there, after_write}
use Rattle.ordered.proofs.OrderedStore.put.Goals as goal

pub returns-then-self-capacity : goal.returns-then-self-capacity
returns-then-self-capacity g c =
    let t = c.args.self.now in
    let slots = front t.slots.now t.len in
    let gone = none_there slots t.kept.1 c.args.key _ c.in-Err.ensures.value in
    let n = length-take t.len t.slots.now in
    let m = length_pairs 0 slots t.kept.1 in
    let full = put_full (held_by t.slots.now t.len) c.args.key c.args.value gone (omega arith) in
    record { answer = full.0; after = full.1 }

pub invariant_of-self : goal.invariant_of-self
invariant_of-self g c =
    let t = c.args.self.now in
    let fits = t.kept.0 in
    let new = after_write (front t.slots.now t.len) _ c.args.key (Some c.args.value) t.kept.1 (omega arith)
    (c.insert.ensures.front ∙ put_there (front t.slots.now t.len) t.kept.1 c.args.key _ c.args.value c.in-Err.ensures.value) in
    record { kept = (omega (arith, c.insert.auto.slots), new.1) }

pub returns : goal.returns
returns g c =
    let t = c.args.self.now in
    let slots = front t.slots.now t.len in
    let is = c.in-Err.ensures.value in
    let n = length-take t.len t.slots.now in
    let m = length_pairs 0 slots t.kept.1 in
    let free = put_free (held_by t.slots.now t.len) c.args.key c.args.value (none_there slots t.kept.1 c.args.key _ is) (λ full. omega arith) in
    let new = after_write slots _ c.args.key (Some c.args.value) t.kept.1 (omega arith)
    (c.insert.ensures.front ∙ put_there slots t.kept.1 c.args.key _ c.args.value is) in
    record { answer = free.0; after = same_held _ (written (held_by t.slots.now t.len) c.args.key (Some c.args.value)) new.0 (ap room c.insert.auto.slots) ∙ free.1 }
