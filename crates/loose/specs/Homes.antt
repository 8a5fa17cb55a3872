-- Where pairs lie in slots that are searched from a key's home on, and past the last slot from the first.
use Rattle.std.specs.Prelude.{◌≡◌, ℕ, suc, ◌*◌, ◌/◌, ◌%◌, ◌^◌, ◌<◌, ◌≤◌, Bool, true, false, cond, not, ◌&&◌, ◌||◌, List, length, is_some, Some, None, Option, Ok, Err, Result, ◌≢◌, nat_le, nat_lt, slice_index_or}
use Rattle.store.specs.Held.{at}
use Rattle.loose.specs.Slots.{gathered, distinct, holds, passes}

-- the home of key k among n slots: its upper bits after a multiplication by 2^64 over the golden ratio, scaled to n
unfoldable pub home : ℕ → ℕ → ℕ
home k n = ((k * 11400714819323198485) % 2 ^ 64) / 2 ^ 32 * n / 2 ^ 32

-- whether j lies on the way from h to i, where i itself does not
abbrev pub on_way : ℕ → ℕ → ℕ → Bool
on_way h j i = cond (nat_le h i) (nat_le h j && nat_lt j i) (nat_le h j || nat_lt j i)

module _ {V : Type 0} where
  -- whether the pair in slot i, of n, has j on its way
  abbrev pub crosses : ℕ → Option (ℕ × V) → ℕ → ℕ → Bool
  crosses n None i j = false
  crosses n (Some p) i j = on_way (home p.0 n) j i

  -- whether slot j is held or lies off the way of the pair in slot i
  abbrev pub clear : ℕ → List (Option (ℕ × V)) → ℕ → ℕ → Bool
  clear n ss i j = is_some (slice_index_or ss j None) || not (nat_lt j n && crosses n (slice_index_or ss i None) i j)

  -- no free slot lies on the way from a pair's home to its slot
  abbrev pub Settled : ℕ → List (Option (ℕ × V)) → Type 0
  Settled n ss = (i j : ℕ) → clear n ss i j ≡ true

  -- no free slot but `hole` does
  abbrev pub SettledBut : ℕ → List (Option (ℕ × V)) → ℕ → Type 0
  SettledBut n ss hole = (i j : ℕ) → (j ≢ hole) → clear n ss i j ≡ true

  -- at most 65,536 slots, with each key once, and every pair where a search from its home on finds it
  abbrev pub Tidy : List (Option (ℕ × V)) → Type 0
  Tidy ss = (length ss ≤ 65536) × (distinct ss ≡ true) × Settled (length ss) ss

  -- as tidy, but for a free slot that may lie on the way of pairs
  abbrev pub Closing : List (Option (ℕ × V)) → ℕ → Type 0
  Closing ss hole = (length ss ≤ 65536) × (distinct ss ≡ true) × (hole < length ss) × (slice_index_or ss hole None ≡ None) × SettledBut (length ss) ss hole

  -- the first of the slots from low to high at which a search for k stops
  abbrev pub Stops : List (Option (ℕ × V)) → ℕ → ℕ → ℕ → Option ℕ → Type 0
  Stops ss low high k None = (j : ℕ) → low ≤ j → j < high → passes (slice_index_or ss j None) k ≡ true
  Stops ss low high k (Some i) = (low ≤ i) × (i < high) × (passes (slice_index_or ss i None) k ≡ false)
      × ((j : ℕ) → low ≤ j → j < i → passes (slice_index_or ss j None) k ≡ true)

  -- the first of n slots, from the home of k on, at which a search for k stops
  abbrev pub Sought : ℕ → List (Option (ℕ × V)) → ℕ → Option ℕ → Type 0
  Sought n ss k None = (j : ℕ) → j < n → passes (slice_index_or ss j None) k ≡ true
  Sought n ss k (Some i) = (i < n) × (passes (slice_index_or ss i None) k ≡ false)
      × ((j : ℕ) → j < n → on_way (home k n) j i ≡ true → passes (slice_index_or ss j None) k ≡ true)

  -- the slot of k, or else the free one where it would go, if there is one: there a search for k stops
  abbrev pub Found : List (Option (ℕ × V)) → ℕ → Result ℕ (Option ℕ) → Type 0
  Found ss k (Ok i) = (holds (slice_index_or ss i None) k ≡ true) × Sought (length ss) ss k (Some i)
  Found ss k (Err (Some i)) = (at (gathered ss) k ≡ None) × (slice_index_or ss i None ≡ None) × Sought (length ss) ss k (Some i)
  Found ss k (Err None) = (at (gathered ss) k ≡ None) × (length (gathered ss) ≡ length ss)

  -- whether slot i, of n, holds a pair that has not the hole on its way
  abbrev pub stays : ℕ → Option (ℕ × V) → ℕ → ℕ → Bool
  stays n None i hole = false
  stays n (Some p) i hole = not (on_way (home p.0 n) hole i)

  -- the first of the slots from low to high that is free or holds a pair with the hole on its way
  abbrev pub Ends : ℕ → List (Option (ℕ × V)) → ℕ → ℕ → ℕ → Option ℕ → Type 0
  Ends n ss low high hole None = (j : ℕ) → low ≤ j → j < high → stays n (slice_index_or ss j None) j hole ≡ true
  Ends n ss low high hole (Some i) = (low ≤ i) × (i < high) × (stays n (slice_index_or ss i None) i hole ≡ false)
      × ((j : ℕ) → low ≤ j → j < i → stays n (slice_index_or ss j None) j hole ≡ true)

  -- the first of n slots, behind the hole, that is free or holds a pair with the hole on its way
  abbrev pub Ended : ℕ → List (Option (ℕ × V)) → ℕ → Option ℕ → Type 0
  Ended n ss hole None = (j : ℕ) → j < n → (j ≢ hole) → stays n (slice_index_or ss j None) j hole ≡ true
  Ended n ss hole (Some i) = (i < n) × (i ≢ hole) × (stays n (slice_index_or ss i None) i hole ≡ false)
      × ((j : ℕ) → j < n → on_way (suc hole) j i ≡ true → stays n (slice_index_or ss j None) j hole ≡ true)

  -- a slot whose pair has the hole on its way, if there is one
  abbrev pub Mover : ℕ → List (Option (ℕ × V)) → ℕ → Option ℕ → Type 0
  Mover n ss hole None = (j : ℕ) → j < n → crosses n (slice_index_or ss j None) j hole ≡ false
  Mover n ss hole (Some i) = (i < n) × (crosses n (slice_index_or ss i None) i hole ≡ true)
