use Rattle.std.proofs.Common.{None, arith}
use Rattle.ordered.proofs.Shifts.{move_down_more, moved_down, past_down}
use Rattle.ordered.proofs.shift.remove.Goals as goal

pub loop-i-preserved : goal.loop-i-preserved
loop-i-preserved g c =
    move_down_more c.args.slots.now c.args.len c.args.at c.loop-i.slots c.loop-i.i c.index-slots-i.result
    (omega arith) (omega arith) (omega arith) c.index-slots-i.is c.loop-i.invariant.0 c.loop-i.invariant.1 c.loop-i.invariant.2

pub returns : goal.returns
returns g c = record {
  front = moved_down c.args.slots.now c.args.len c.args.at c.loop-i.slots None (omega arith) c.requires.0 c.requires.1
      c.loop-i.invariant.0 (λ k d l h. c.loop-i.invariant.1 k d l (omega arith));
  back = past_down c.args.slots.now c.args.len c.args.at c.loop-i.slots None (omega arith) c.requires.0 c.requires.1
      (λ k d l. c.loop-i.invariant.2 k d (omega arith));
}
