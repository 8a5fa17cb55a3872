use Rattle.std.proofs.Common.{◌≡◌, ℕ, ◌+◌, ◌<◌, ◌≤◌, get_or, Option}
use Rattle.ordered.proofs.shift.remove.Given as goal

abbrev pub invariant-loop-i : goal.invariant-loop-i
invariant-loop-i g l =
    ((k : ℕ) (d : Option (ℕ × g.row.V.Denot)) → k < l.at → get_or l.slots k d ≡ get_or l.initial.slots k d)
    × ((k : ℕ) (d : Option (ℕ × g.row.V.Denot)) → l.at ≤ k → k + 1 < l.i → get_or l.slots k d ≡ get_or l.initial.slots (k + 1) d)
    × ((k : ℕ) (d : Option (ℕ × g.row.V.Denot)) → l.i ≤ k → get_or l.slots k d ≡ get_or l.initial.slots k d)
