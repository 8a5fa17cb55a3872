use Rattle.std.proofs.Common.{length, Some, ap, ◌∙◌, arith}
use Rattle.std.proofs.lemmas.List.{length-set}
use Rattle.store.specs.Held.{written}
use Rattle.loose.specs.Rows.{held_by}
use Rattle.loose.specs.Slots.{gathered}
use Rattle.loose.specs.Gathers.{rising, has_held, alone}
use Rattle.loose.proofs.Rows.{put_in}
use Rattle.store.proofs.Writes.{same_held, change_free, length_there}
use Rattle.loose.proofs.LooseStore.change.Goals as goal

pub invariant_of-self : goal.invariant_of-self
invariant_of-self g c =
    let t = c.args.self.now in
    let ss = t.slots.now in
    let is = c.in-Ok.ensures in
    let new = put_in ss c.args.key c.args.value _ t.tidy (omega arith) is.1 (alone ss _ c.args.key t.tidy.1 is.1.0 is.0) in
    let as_many = length_there (gathered ss) (rising ss) c.args.key (Some c.args.value) (has_held ss _ c.args.key is.1.0 is.0) in
    record { tidy = new.0; counted = omega (arith, ap length new.1, t.counted) }

pub returns : goal.returns
returns g c =
    let t = c.args.self.now in
    let ss = t.slots.now in
    let is = c.in-Ok.ensures in
    let new = put_in ss c.args.key c.args.value _ t.tidy (omega arith) is.1 (alone ss _ c.args.key t.tidy.1 is.1.0 is.0) in
    let there = change_free (held_by ss) c.args.key c.args.value (has_held ss _ c.args.key is.1.0 is.0) in
    record {
      answer = there.0;
      after = same_held _ (written (held_by ss) c.args.key (Some c.args.value)) new.1 (length-set ss _ _) ∙ there.1;
    }
