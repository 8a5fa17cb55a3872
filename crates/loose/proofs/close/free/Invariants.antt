use Rattle.std.proofs.Common.{◌≡◌, length}
use Rattle.loose.specs.Homes.{Closing}
use Rattle.loose.specs.Slots.{gathered}
use Rattle.loose.proofs.Holes.{spread}
use Rattle.loose.proofs.close.free.Given as goal

abbrev pub invariant-loop-from : goal.invariant-loop-from
invariant-loop-from g l = Closing l.slots l.hole × (gathered l.slots ≡ gathered l.initial.slots)

abbrev pub decreases-loop-from : goal.decreases-loop-from
decreases-loop-from g l = spread (length l.slots) 0 l.slots
