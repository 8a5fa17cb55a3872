-- What slots mean that are each free or hold a pair, in any order.
use Rattle.std.specs.Prelude.{◌≡◌, ℕ, ◌^◌, ◌<◌, Bool, true, false, cond, not, ◌&&◌, ◌||◌, List, [], ◌∷◌, length, is_some, Some, None, Option, ◌==◌, nat_lt, slice_index_or}
use Rattle.store.specs.Held.{at, write}

module _ {V : Type 0} where
  -- the pairs that slots hold, in rising order of their keys
  abbrev pub gathered : List (Option (ℕ × V)) → List (ℕ × V)
  gathered [] = []
  gathered (None ∷ ss) = gathered ss
  gathered (Some p ∷ ss) = write (gathered ss) p.0 (Some p.1)

  -- each key has 64 bits and is held once
  abbrev pub distinct : List (Option (ℕ × V)) → Bool
  distinct [] = true
  distinct (None ∷ ss) = distinct ss
  distinct (Some p ∷ ss) = nat_lt p.0 (2 ^ 64) && (not (is_some (at (gathered ss) p.0)) && distinct ss)

  -- every slot is free
  abbrev pub Blank : List (Option (ℕ × V)) → Type 0
  Blank ss = (i : ℕ) → i < length ss → slice_index_or ss i None ≡ None

  -- whether a slot holds a pair under k
  abbrev pub holds : Option (ℕ × V) → ℕ → Bool
  holds None k = false
  holds (Some p) k = p.0 == k

  -- whether a search for k goes on past a slot: it holds a pair under another key
  abbrev pub passes : Option (ℕ × V) → ℕ → Bool
  passes None k = false
  passes (Some p) k = not (p.0 == k)

  -- the one of two slots that holds the smaller key at or above k, if either does
  abbrev pub closer : Option (ℕ × V) → Option (ℕ × V) → ℕ → Option (ℕ × V)
  closer best None k = best
  closer None (Some p) k = cond (nat_lt p.0 k) None (Some p)
  closer (Some b) (Some p) k = cond (nat_lt p.0 k || nat_lt b.0 p.0) (Some b) (Some p)
