use Rattle.std.proofs.Common.{◌+◌, ◌≤◌, length, Some, ap, ◌∙◌, arith, rules}
use Rattle.std.proofs.lemmas.List.{length-set}
use Rattle.store.specs.Held.{written}
use Rattle.loose.specs.Rows.{held_by}
use Rattle.loose.specs.Slots.{gathered}
use Rattle.loose.specs.Gathers.{rising, has_held, gathered_free, alone_free}
use Rattle.loose.proofs.Rows.{put_in}
use Rattle.store.proofs.Writes.{same_held, put_free, length-write}
use Rattle.loose.proofs.LooseStore.put.Goals as goal

pub returns-in-Ok : goal.returns-in-Ok
returns-in-Ok g c =
    let is = c.in-Ok.ensures in
    let has = has_held c.args.self.now.slots.now _ c.args.key is.1.0 is.0 in
    search rules

pub overflow_add-self : goal.overflow_add-self
overflow_add-self g c =
    let t = c.args.self.now in
    let is = rw c.in-Err-Some.field-0-is at c.in-Err-Some.ensures in
    let room : t.len + 1 ≤ 65536 = omega (arith, gathered_free t.slots.now _ is.2.0 is.1, t.counted, t.tidy.0) in
    search rules

pub invariant_of-self : goal.invariant_of-self
invariant_of-self g c =
    let t = c.args.self.now in
    let ss = t.slots.now in
    let is = rw c.in-Err-Some.field-0-is at c.in-Err-Some.ensures in
    let new = put_in ss c.args.key c.args.value _ t.tidy (omega arith) is.2 (alone_free ss _ c.args.key is.1 is.0) in
    let more = rw is.0 at (length-write (gathered ss) (rising ss) c.args.key (Some c.args.value)) in
    record { tidy = new.0; counted = omega (arith, ap length new.1, t.counted) }

pub returns-in-Err-Some : goal.returns-in-Err-Some
returns-in-Err-Some g c =
    let t = c.args.self.now in
    let ss = t.slots.now in
    let is = rw c.in-Err-Some.field-0-is at c.in-Err-Some.ensures in
    let new = put_in ss c.args.key c.args.value _ t.tidy (omega arith) is.2 (alone_free ss _ c.args.key is.1 is.0) in
    let room = gathered_free ss _ is.2.0 is.1 in
    let free = put_free (held_by ss) c.args.key c.args.value is.0 (λ full. omega arith) in
    record {
      answer = free.0;
      after = same_held _ (written (held_by ss) c.args.key (Some c.args.value)) new.1 (length-set ss _ _) ∙ free.1;
    }
