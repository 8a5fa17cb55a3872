-- What slots hold of which the first `len` are in use.
use Rattle.std.specs.Prelude.{◌≡◌, ℕ, ◌≤◌, min, true, List, [], length, take, Option}
use Rattle.store.specs.Held.{Held}
use Rattle.ordered.specs.Slots.{pairs_of, sorted}

-- the capacity over n slots
abbrev pub room : ℕ → ℕ
room n = min n 65536

module _ {V : Type 0} where
  -- the slots in use
  abbrev pub front : List (Option (ℕ × V)) → ℕ → List (Option (ℕ × V))
  front slots len = take len slots

  -- the pairs in the slots in use, and the capacity
  abbrev pub held_by : List (Option (ℕ × V)) → ℕ → Held V
  held_by slots len = record { pairs = pairs_of (front slots len); places = room (length slots) }

  -- what a table keeps: no more slots in use than the capacity, and those sorted
  abbrev pub Kept : List (Option (ℕ × V)) → ℕ → Type 0
  Kept slots len = (len ≤ (held_by slots len).places) × (sorted 0 (front slots len) ≡ true)

  -- no pair, over n slots
  abbrev pub fresh : ℕ → Held V
  fresh n = record { pairs = []; places = room n }
