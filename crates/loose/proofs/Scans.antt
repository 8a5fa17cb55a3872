-- The smallest key at or above a key, slot by slot from the last on.
use Rattle.std.proofs.Common.{◌≡◌, ℕ, true, false, MatchOption, ◌<◌, ◌≤◌, cond, ◌||◌, ltb, List, [], ◌∷◌, get_or, reverse, Some, None, Option, refl, ap, ◌∙◌, inl, inr, arith}
use Rattle.std.proofs.lemmas.List.Sums.{fold-append}
use mathlib.Core.List.{reverse-cons}
use Rattle.std.specs.List.{fold}
use Rattle.std.proofs.lemmas.Bool.{cases_order, cases_lt, lt-ltb, le-ltb, lt-leb, eq-eqb, ne_eqb}
use Rattle.std.proofs.lemmas.Bool.Decides.{nat_tests}
use Rattle.store.specs.Held.{from, write}
use Rattle.loose.specs.Homes.{Stops, stays, Ends}
use Rattle.loose.specs.Slots.{gathered, closer, passes}

module _ {V : Type 0} where
  closer_below : (best : Option (ℕ × V)) (p : ℕ × V) (k : ℕ) → p.0 < k → closer best (Some p) k ≡ best
  closer_below None p k l = ap (λ b. cond b None (Some p)) (lt-ltb p.0 k l)
  closer_below (Some q) p k l = ap (λ b. cond (b || ltb q.0 p.0) (Some q) (Some p)) (lt-ltb p.0 k l)

  from-write : (ps : List (ℕ × V)) (p : ℕ × V) (k : ℕ) → closer (from ps k) (Some p) k ≡ from (write ps p.0 (Some p.1)) k
  from-write [] p k = grind (arith, nat_tests)
  from-write (q ∷ ps) p k =
      elim (cases_order p.0 q.0) [
        | inl e ↦ rw (le-ltb p.0 q.0 (omega arith), eq-eqb p.0 q.0 e) (elim (cases_lt q.0 k) [
          | inl l ↦ rw (lt-leb k q.0 l, lt-leb k p.0 (omega arith)) (closer_below (from ps k) p k (omega arith))
          | inr l ↦ grind (arith, nat_tests)
        ])
        | inr (inl h) ↦ rw (lt-ltb p.0 q.0 h) (elim (cases_lt q.0 k) [
          | inl l ↦ rw (lt-leb k q.0 l, lt-leb k p.0 (omega arith)) (closer_below (from ps k) p k (omega arith))
          | inr l ↦ grind (arith, nat_tests)
        ])
        | inr (inr h) ↦ rw (le-ltb p.0 q.0 (omega arith), ne_eqb p.0 q.0 (λ e. omega arith)) (elim (cases_lt q.0 k) [
          | inl l ↦ rw (lt-leb k q.0 l) (from-write ps p k)
          | inr l ↦ grind (arith, nat_tests)
        ])
      ]

  from_slot : (ss : List (Option (ℕ × V))) (s : Option (ℕ × V)) (k : ℕ) → closer (from (gathered ss) k) s k ≡ from (gathered (s ∷ ss)) k
  from_slot ss None k = refl
  from_slot ss (Some p) k = from-write (gathered ss) p k

  -- all slots, from the last on
  pub from_fold : (ss : List (Option (ℕ × V))) (k : ℕ) → fold (λ best s. closer best s k) None (reverse ss) ≡ from (gathered ss) k
  from_fold [] k = refl
  from_fold (s ∷ ss) k =
      ap (fold (λ best s. closer best s k) None) (reverse-cons s ss)
      ∙ fold-append (λ best s. closer best s k) None (reverse ss) (s ∷ [])
      ∙ ap (λ best. closer best s k) (from_fold ss k) ∙ from_slot ss s k

module _ {V : Type 0} (ss : List (Option (ℕ × V))) (low high k : ℕ) where
  -- the first place in a range where a search stops
  pub stops_from : (r : Option ℕ) → MatchOption r ((i : ℕ) → low ≤ i → i < high → passes (get_or ss i None) k ≡ true)
      (λ i. (low ≤ i) × (i < high) × (passes (get_or ss i None) k ≡ false) × ((j : ℕ) → low ≤ j → j < i → passes (get_or ss j None) k ≡ true)) → Stops ss low high k r
  stops_from None h = h
  stops_from (Some i) h = h

-- and where the search behind a hole ends
module _ {V : Type 0} (n : ℕ) (ss : List (Option (ℕ × V))) (low high hole : ℕ) where
  pub ends_from : (r : Option ℕ) → MatchOption r ((i : ℕ) → low ≤ i → i < high → stays n (get_or ss i None) i hole ≡ true)
      (λ i. (low ≤ i) × (i < high) × (stays n (get_or ss i None) i hole ≡ false) × ((j : ℕ) → low ≤ j → j < i → stays n (get_or ss j None) j hole ≡ true)) → Ends n ss low high hole r
  ends_from None h = h
  ends_from (Some i) h = h
