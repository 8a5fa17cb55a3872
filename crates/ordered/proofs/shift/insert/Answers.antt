use Rattle.std.proofs.Common.{arith}
use Rattle.ordered.proofs.Shifts.{move_more, moved_up, past_up}
use Rattle.ordered.proofs.shift.insert.Goals as goal

pub loop-i-preserved : goal.loop-i-preserved
loop-i-preserved g c =
    move_more c.args.slots.now c.args.len c.args.at c.loop-i.slots c.loop-i.i c.index-slots-i.result
    (omega arith) (omega arith) (omega arith) c.index-slots-i.is c.loop-i.invariant.1 c.loop-i.invariant.2 c.loop-i.invariant.3

pub returns : goal.returns
returns g c = record {
  front = moved_up c.args.slots.now c.args.len c.args.at c.loop-i.slots c.args.slot (omega arith) c.requires.0 c.requires.1
      (λ k d l. c.loop-i.invariant.1 k d (omega arith)) (λ k d l. c.loop-i.invariant.2 k d (omega arith));
  back = past_up c.args.slots.now c.args.len c.args.at c.loop-i.slots c.args.slot (omega arith) c.requires.0 c.loop-i.invariant.3;
}
