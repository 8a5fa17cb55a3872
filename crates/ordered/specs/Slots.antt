-- What slots mean that each hold a pair, in rising order of their keys.
use Rattle.std.specs.Prelude.{ℕ, suc, ◌^◌, Bool, true, false, cond, ◌&&◌, List, [], ◌∷◌, is_some, Some, None, Ok, Err, Option, Result, ◌==◌, nat_le, nat_lt}
use Rattle.std.specs.Ordering.{nat_cmp}
use Rattle.std.specs.declared.cmp.Ordering.{Ordering}
use Rattle.std.specs.declared.cmp.Ordering.TheVariants.{Greater}
use Rattle.store.specs.Held.{at}

module _ {V : Type 0} where
  -- the pairs that slots hold
  abbrev pub pairs_of : List (Option (ℕ × V)) → List (ℕ × V)
  pairs_of [] = []
  pairs_of (None ∷ ss) = pairs_of ss
  pairs_of (Some p ∷ ss) = p ∷ pairs_of ss

  -- every slot holds a pair, with a key of 64 bits, at or above i and above the key before it
  abbrev pub sorted : ℕ → List (Option (ℕ × V)) → Bool
  sorted i [] = true
  sorted i (None ∷ ss) = false
  sorted i (Some p ∷ ss) = nat_le i p.0 && (nat_lt p.0 (2 ^ 64) && sorted (suc p.0) ss)

  -- how many keys at the front are below k: where k is, or would go
  abbrev pub rank : List (ℕ × V) → ℕ → ℕ
  rank [] k = 0
  rank (p ∷ ps) k = cond (nat_lt p.0 k) (suc (rank ps k)) 0

  -- the place of k, or else that where it would go
  abbrev pub place : List (ℕ × V) → ℕ → Result ℕ ℕ
  place ps k = cond (is_some (at ps k)) (Ok (rank ps k)) (Err (rank ps k))

  -- how a slot's key stands to k; a free slot stands above each
  abbrev pub against : Option (ℕ × V) → ℕ → Ordering
  against None k = Greater
  against (Some p) k = nat_cmp p.0 k

  -- whether a slot holds a key below k
  abbrev pub is_below : Option (ℕ × V) → ℕ → Bool
  is_below None k = false
  is_below (Some p) k = nat_lt p.0 k

  -- whether a slot holds k
  abbrev pub is_under : Option (ℕ × V) → ℕ → Bool
  is_under None k = false
  is_under (Some p) k = p.0 == k

  -- the value in a slot
  abbrev pub value_in : Option (ℕ × V) → Option V
  value_in None = None
  value_in (Some p) = Some p.1
