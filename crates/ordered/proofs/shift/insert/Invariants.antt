use Rattle.std.proofs.Common.{◌≡◌, ℕ, ◌+◌, ◌<◌, ◌≤◌, get_or, Option}
use Rattle.ordered.proofs.shift.insert.Given as goal

abbrev pub invariant-loop-i : goal.invariant-loop-i
invariant-loop-i g l =
    (l.at ≤ l.i)
    × ((k : ℕ) (d : Option (ℕ × g.row.V.Denot)) → k < l.i → get_or l.slots k d ≡ get_or l.initial.slots k d)
    × ((k : ℕ) (d : Option (ℕ × g.row.V.Denot)) → l.i ≤ k → k < l.len → get_or l.slots (k + 1) d ≡ get_or l.initial.slots k d)
    × ((k : ℕ) (d : Option (ℕ × g.row.V.Denot)) → l.len < k → get_or l.slots k d ≡ get_or l.initial.slots k d)
