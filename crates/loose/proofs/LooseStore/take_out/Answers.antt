use Rattle.std.proofs.Common.{length, None, sym, refl, ap, ◌∙◌, arith, rules}
use Rattle.store.specs.Held.{take_out}
use Rattle.loose.specs.Rows.{held_by}
use Rattle.loose.specs.Slots.{gathered}
use Rattle.loose.specs.Gathers.{rising, has_held}
use Rattle.loose.proofs.Rows.{freed, not_found}
use Rattle.store.proofs.Writes.{same_held, write_absent, length_there}
use Rattle.loose.proofs.LooseStore.take_out.Goals as goal

pub returns-in_default : goal.returns-in_default
returns-in_default g c =
    let ss = c.args.self.now.slots.now in
    let gone = not_found ss c.args.key c.find.result c.find.ensures c.in_default.not-Ok in
    record {
      answer = search rules;
      after = same_held (held_by ss) (take_out (held_by ss) c.args.key) (sym (write_absent (gathered ss) c.args.key gone)) refl;
    }

pub free-requires-clause-closing : goal.free-requires-clause-closing
free-requires-clause-closing g c =
    let t = c.args.self.now in
    let is = c.in-Ok.ensures in
    (freed t.slots.now c.args.key _ t.tidy (omega arith) is.1.0 is.0).0

pub overflow_sub-self : goal.overflow_sub-self
overflow_sub-self g c =
    let t = c.args.self.now in
    let ss = t.slots.now in
    let is = c.in-Ok.ensures in
    omega (arith, length_there (gathered ss) (rising ss) c.args.key None (has_held ss _ c.args.key is.1.0 is.0), t.counted)

pub invariant_of-self : goal.invariant_of-self
invariant_of-self g c =
    let t = c.args.self.now in
    let ss = t.slots.now in
    let is = c.in-Ok.ensures in
    let less = length_there (gathered ss) (rising ss) c.args.key None (has_held ss _ c.args.key is.1.0 is.0) in
    let pairs = c.free.ensures.same ∙ (freed ss c.args.key _ t.tidy (omega arith) is.1.0 is.0).1 in
    record { tidy = c.free.ensures.tidy; counted = omega (arith, ap length pairs, t.counted) }

pub returns : goal.returns
returns g c =
    let t = c.args.self.now in
    let ss = t.slots.now in
    let is = c.in-Ok.ensures in
    let has = has_held ss _ c.args.key is.1.0 is.0 in
    let pairs = c.free.ensures.same ∙ (freed ss c.args.key _ t.tidy (omega arith) is.1.0 is.0).1 in
    record {
      answer = search rules;
      after = same_held _ (take_out (held_by ss) c.args.key) pairs c.free.auto.slots;
    }
