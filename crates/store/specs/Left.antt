-- What a walk over a store's pairs has left.
use Rattle.std.specs.Prelude.{ℕ, List, [], Some, None, Option}
use Rattle.store.specs.Held.{onward}

-- the pairs with keys at or above the next key, and none where no key comes next
abbrev pub left : {V : Type 0} → List (ℕ × V) → Option ℕ → List (ℕ × V)
left ps None = []
left ps (Some k) = onward ps k
