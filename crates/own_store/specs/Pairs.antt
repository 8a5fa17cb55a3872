-- What a list of pairs means as a store, and the test that it keeps.
use Rattle.std.specs.Prelude.{ℕ, suc, ◌^◌, Bool, true, ◌&&◌, List, [], ◌∷◌, nat_le, nat_lt}
use Rattle.store.specs.Held.{Held}

module _ {V : Type 0} where
  -- every key has 64 bits, is at or above i, and above the key before it
  abbrev pub sorted : ℕ → List (ℕ × V) → Bool
  sorted i [] = true
  sorted i (p ∷ ps) = nat_le i p.0 && (nat_lt p.0 (2 ^ 64) && sorted (suc p.0) ps)

  -- what a store holds that has these pairs and so many places
  abbrev pub held_as : List (ℕ × V) → ℕ → Held V
  held_as ps n = record { pairs = ps; places = n }
