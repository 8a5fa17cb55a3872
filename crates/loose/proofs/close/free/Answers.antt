use Rattle.std.proofs.Common.{length, refl, ◌∙◌}
use Rattle.loose.proofs.Holes.{moved}
use Rattle.loose.proofs.Homes.{settled_all}
use Rattle.loose.proofs.close.free.Goals as goal

pub loop-from-smaller : goal.loop-from-smaller
loop-from-smaller g c =
    (moved c.loop-from.slots c.loop-from.hole c.in-Some.from c.loop-from.invariant.0 c.in-Some.ensures
    c.shift.new.slots c.shift.ensures).2

pub loop-from-preserved : goal.loop-from-preserved
loop-from-preserved g c =
    let step = moved c.loop-from.slots c.loop-from.hole c.in-Some.from c.loop-from.invariant.0 c.in-Some.ensures
    c.shift.new.slots c.shift.ensures in
    (step.0, step.1 ∙ c.loop-from.invariant.1)

pub returns : goal.returns
returns g c =
    let ss = c.loop-from.slots in
    let inv = c.loop-from.invariant in
    record {
      same = inv.1;
      tidy = (inv.0.0, inv.0.1, settled_all (length ss) ss c.loop-from.hole refl inv.0.4 c.in_default.ensures);
    }
