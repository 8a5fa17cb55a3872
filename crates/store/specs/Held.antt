-- What a store holds: its pairs of key and value, keys rising, and its capacity.
use Rattle.std.specs.Prelude.{ℕ, suc, ◌^◌, ◌<◌, ◌≤◌, Bool, cond, List, [], ◌∷◌, length, is_some, Some, None, Ok, Err, Option, Result, ◌==◌, nat_le, nat_lt}
use Rattle.store.specs.declared.PutRefusal.{PutRefusal}
use Rattle.store.specs.declared.PutRefusal.TheVariants.{Present, Full}
use Rattle.store.specs.declared.Absent.{Absent}

pub record Held (V : Type 0) : Type 0 where
  pub pairs : List (ℕ × V)
  pub places : ℕ

module _ {V : Type 0} where
  -- On lists of pairs.

  -- the value under k
  abbrev pub at : List (ℕ × V) → ℕ → Option V
  at [] k = None
  at (p ∷ ps) k = cond (p.0 == k) (Some p.1) (at ps k)

  -- the pairs with keys at or above k
  abbrev pub onward : List (ℕ × V) → ℕ → List (ℕ × V)
  onward [] k = []
  onward (p ∷ ps) k = cond (nat_le k p.0) (p ∷ ps) (onward ps k)

  -- the first pair, if there is one
  abbrev pub first : List (ℕ × V) → Option (ℕ × V)
  first [] = None
  first (p ∷ ps) = Some p

  -- the pair with the smallest key at or above k
  abbrev pub from : List (ℕ × V) → ℕ → Option (ℕ × V)
  from ps k = first (onward ps k)

  -- what stands under k, or d
  abbrev pub or_else : V → Option V → V
  or_else d None = d
  or_else d (Some v) = v

  -- a pair of k, if there is a value for it, and then ps
  abbrev pub before : ℕ → Option V → List (ℕ × V) → List (ℕ × V)
  before k None ps = ps
  before k (Some v) ps = (k, v) ∷ ps

  -- puts in, changes or takes out: afterwards k has just what is written
  abbrev pub write : List (ℕ × V) → ℕ → Option V → List (ℕ × V)
  write [] k o = before k o []
  write (p ∷ ps) k o = cond (nat_lt k p.0) (before k o (p ∷ ps)) (cond (k == p.0) (before k o ps) (p ∷ write ps k o))

  -- keys strictly rising, from i on
  abbrev pub From : ℕ → List (ℕ × V) → Type 0
  From i [] = Unit {0}
  From i (p ∷ ps) = (i ≤ p.0) × From (suc p.0) ps

  -- keys strictly rising
  abbrev pub Rising : List (ℕ × V) → Type 0
  Rising ps = From 0 ps

  -- every key has 64 bits
  abbrev pub Fit : List (ℕ × V) → Type 0
  Fit [] = Unit {0}
  Fit (p ∷ ps) = (p.0 < 2 ^ 64) × Fit ps

  -- On what a store holds. Each is total: a refused change leaves it as it was.

  -- the value under k, or absent
  abbrev pub find : Held V → ℕ → Option V
  find h k = at h.pairs k

  -- whether k is there
  abbrev pub has : Held V → ℕ → Bool
  has h k = is_some (find h k)

  -- whether the count equals the capacity
  abbrev pub full : Held V → Bool
  full h = length h.pairs == h.places

  -- the answer to putting in: present if the key is there, else full if the store is
  abbrev pub puts : Held V → ℕ → Result (Unit {0}) PutRefusal
  puts h k = cond (has h k) (Err Present) (cond (full h) (Err Full) (Ok tt))

  -- with just o under k, and every other pair as it was
  abbrev pub written : Held V → ℕ → Option V → Held V
  written h k o = record { pairs = write h.pairs k o; places = h.places }

  -- after putting in
  abbrev pub put : Held V → ℕ → V → Held V
  put h k v = cond (has h k) h (cond (full h) h (written h k (Some v)))

  -- the answer to changing and to taking out: absent if the key is not there
  abbrev pub changes : Held V → ℕ → Result (Unit {0}) Absent
  changes h k = cond (has h k) (Ok tt) (Err record {})

  -- after changing
  abbrev pub change : Held V → ℕ → V → Held V
  change h k v = cond (has h k) (written h k (Some v)) h

  -- after taking out: where k is not there, nothing goes
  abbrev pub take_out : Held V → ℕ → Held V
  take_out h k = written h k None

  -- after emptying: no pair, and the capacity as it was
  abbrev pub emptied : Held V → Held V
  emptied h = record { pairs = []; places = h.places }

  -- what every store keeps: keys rise and have 64 bits, and no more pairs than places, of which there are at most 65,536
  pub record Sound (h : Held V) : Type 0 where
    pub rising : Rising h.pairs
    pub fit : Fit h.pairs
    pub within : length h.pairs ≤ h.places
    pub small : h.places ≤ 65536
