-- What a binary search finds among pairs in rising order of their keys, and among slots that hold such.
use Rattle.std.proofs.Common.{◌≡◌, ℕ, zero, suc, ◌<◌, ◌≤◌, true, cond, List, [], ◌∷◌, length, get_or, is_some, Some, None, Option, Ok, Err, Result, MatchResult, sym, refl, ap, ◌∙◌, inl, inr, arith}
use Rattle.std.specs.List.Sorted.{IsSearchInRange, IsBinarySearchResult, IsNonDecreasingBy}
use Rattle.std.specs.Result.{result_ok}
use Rattle.std.specs.Ordering.{nat_cmp, ordering_index}
use Rattle.std.specs.declared.cmp.Ordering.TheVariants.{Less, Equal, Greater}
use Rattle.std.proofs.lemmas.Cmp.{ranked}
use Rattle.std.proofs.lemmas.Bool.{cases_lt, false≢true}
use Rattle.std.proofs.lemmas.Bool.Decides.{nat_tests}
use Rattle.store.specs.Held.{From, Rising}
use Rattle.ordered.specs.Slots.{pairs_of, sorted, rank, place, against}
use Rattle.ordered.specs.Ranks.{from_at, rank_le, rank_above, rank_below, at_index, at_missing}
use Rattle.ordered.specs.SlotsLemmas.{parts, rising, length_pairs}

-- comparisons with a key rise with what is compared
index_rises : (a b k : ℕ) → a ≤ b → ordering_index (nat_cmp a k) ≤ ordering_index (nat_cmp b k)
index_rises a b k h = grind (arith, nat_tests)

module _ {V : Type 0} where
  -- a key stands at its rank
  rank_there : (n : ℕ) (ps : List (ℕ × V)) (k i : ℕ) (d : ℕ × V) → From n ps → i < length ps → (get_or ps i d).0 ≡ k → i ≡ rank ps k
  rank_there n [] k i d f l e = absurd (omega arith)
  rank_there n (p ∷ ps) k zero d f l e = grind (arith, nat_tests)
  rank_there n (p ∷ ps) k (suc i) d f l e =
      let low = from_at (suc p.0) ps i d f.1 (omega arith) in
      let more = rank_there (suc p.0) ps k i d f.1 (omega arith) e in
      grind (arith, nat_tests)

  -- the keys rise along the list
  rising_at : (n : ℕ) (ps : List (ℕ × V)) (i j : ℕ) (d : ℕ × V) → From n ps → i ≤ j → j < length ps → (get_or ps i d).0 ≤ (get_or ps j d).0
  rising_at n [] i j d f le l = absurd (omega arith)
  rising_at n (p ∷ ps) zero zero d f le l = omega arith
  rising_at n (p ∷ ps) zero (suc j) d f le l = let low = from_at (suc p.0) ps j d f.1 (omega arith) in omega arith
  rising_at n (p ∷ ps) (suc i) zero d f le l = absurd (omega arith)
  rising_at n (p ∷ ps) (suc i) (suc j) d f le l = rising_at (suc p.0) ps i j d f.1 (omega arith) (omega arith)

module _ {V : Type 0} (ps : List (ℕ × V)) (up : Rising ps) (k : ℕ) where
  -- a place that holds the key
  pub found_there : (i : ℕ) (d : ℕ × V) → i < length ps → (get_or ps i d).0 ≡ k → Ok i ≡ place ps k
  found_there i d l key =
      ap Ok (rank_there 0 ps k i d up l key)
      ∙ sym (ap (λ o. cond (is_some o) (Ok (rank ps k)) (Err (rank ps k))) (at_index 0 ps k i d up l key))

  -- a place between the smaller keys and the greater
  pub gap : (i : ℕ) → i ≤ length ps → ((j : ℕ) (d : ℕ × V) → j < i → (get_or ps j d).0 < k) → ((j : ℕ) (d : ℕ × V) → i ≤ j → j < length ps → k < (get_or ps j d).0) → Err i ≡ place ps k
  gap i l smaller greater =
      let low : i ≤ rank ps k = at_least i l smaller in
      let high : rank ps k ≤ i = at_most i l greater in
      let at_rank : i ≡ rank ps k = omega arith in
      let none = at_missing 0 ps k up (λ d here same. omega (arith, greater (rank ps k) d (omega arith) here)) in
      ap Err at_rank ∙ sym (ap (λ o. cond (is_some o) (Ok (rank ps k)) (Err (rank ps k))) none)
    where
      some_pair : (qs : List (ℕ × V)) → 0 < length qs → ℕ × V
      some_pair [] l = absurd (omega arith)
      some_pair (p ∷ qs) l = p

      at_least : (i : ℕ) → i ≤ length ps → ((j : ℕ) (d : ℕ × V) → j < i → (get_or ps j d).0 < k) → i ≤ rank ps k
      at_least zero l smaller = omega arith
      at_least (suc i) l smaller =
          let d = some_pair ps (omega arith) in
          rank_above 0 ps k i d up l (smaller i d (omega arith))

      at_most : (i : ℕ) → i ≤ length ps → ((j : ℕ) (d : ℕ × V) → i ≤ j → j < length ps → k < (get_or ps j d).0) → rank ps k ≤ i
      at_most i l greater =
          elim (cases_lt i (length ps)) [
            | inl lt ↦
                let d = some_pair ps (omega arith) in
                rank_below ps k i d lt (omega (arith, greater i d (omega arith) lt))
            | inr ge ↦ omega (arith, rank_le ps k)
          ]

  -- a binary search by the key ends at it, or where it would go
  pub found_by_key : (r : Result ℕ ℕ) → IsSearchInRange r (length ps) → IsBinarySearchResult (λ p. nat_cmp p.0 k) ps r → r ≡ place ps k
  found_by_key (Ok i) l equal = let d = get_first ps i l in found_there i d l (ranked (get_or ps i d).0 k Equal (sym (equal d)))
    where
      get_first : (qs : List (ℕ × V)) (j : ℕ) → j < length qs → ℕ × V
      get_first [] j l = absurd (omega arith)
      get_first (p ∷ qs) j l = p
  found_by_key (Err i) l parted =
      let apart = parted (λ i j d le h. index_rises (get_or ps i d).0 (get_or ps j d).0 k (rising_at 0 ps i j d up le h)) in
      gap i l (λ j d lt. ranked (get_or ps j d).0 k Less (sym (apart.0 j d (omega arith) lt)))
      (λ j d le lt. ranked (get_or ps j d).0 k Greater (sym (apart.1 j d le lt)))

module _ {V : Type 0} where
  -- the slot at a place holds the pair at that place
  slot_at : (n : ℕ) (ss : List (Option (ℕ × V))) (i : ℕ) (x : Option (ℕ × V)) (d : ℕ × V) → sorted n ss ≡ true → i < length ss → get_or ss i x ≡ Some (get_or (pairs_of ss) i d)
  slot_at n [] i x d up l = absurd (omega arith)
  slot_at n (None ∷ ss) i x d up l = absurd (false≢true up)
  slot_at n (Some p ∷ ss) zero x d up l = refl
  slot_at n (Some p ∷ ss) (suc i) x d up l = slot_at (suc p.0) ss i x d (parts n p ss up).2 (omega arith)

  some_pair : (n : ℕ) (ss : List (Option (ℕ × V))) → sorted n ss ≡ true → 0 < length ss → ℕ × V
  some_pair n [] up l = absurd (omega arith)
  some_pair n (None ∷ ss) up l = absurd (false≢true up)
  some_pair n (Some p ∷ ss) up l = p

module _ {V : Type 0} (ss : List (Option (ℕ × V))) (up : sorted 0 ss ≡ true) (k : ℕ) where
  -- how the slot at a place compares with k
  compared : (i : ℕ) (x : Option (ℕ × V)) (d : ℕ × V) → i < length ss → against (get_or ss i x) k ≡ nat_cmp (get_or (pairs_of ss) i d).0 k
  compared i x d l = ap (λ s. against s k) (slot_at 0 ss i x d up l)

  comparisons_rise : IsNonDecreasingBy (λ s. ordering_index (against s k)) ss
  comparisons_rise i j x le l =
      let d = some_pair 0 ss up (omega arith) in
      rw (compared i x d (omega arith), compared j x d l)
      (index_rises (get_or (pairs_of ss) i d).0 (get_or (pairs_of ss) j d).0 k (rising_at 0 (pairs_of ss) i j d (rising 0 ss up) le (omega (arith, length_pairs 0 ss up))))

  -- the same of a search among the slots
  pub found : (r : Result ℕ ℕ) → IsSearchInRange r (length ss) → IsBinarySearchResult (λ s. against s k) ss r → r ≡ place (pairs_of ss) k
  found (Ok i) l equal =
      let n = length_pairs 0 ss up in
      let d = some_pair 0 ss up (omega arith) in
      found_there (pairs_of ss) (rising 0 ss up) k i d (omega arith) (ranked (get_or (pairs_of ss) i d).0 k Equal (sym (equal None) ∙ compared i None d l))
  found (Err i) l parted =
      let n = length_pairs 0 ss up in
      let apart = parted comparisons_rise in
      gap (pairs_of ss) (rising 0 ss up) k i (omega arith) (λ j d lt. ranked (get_or (pairs_of ss) j d).0 k Less (sym (apart.0 j None (omega arith) lt) ∙ compared j None d (omega arith)))
      (λ j d le lt. ranked (get_or (pairs_of ss) j d).0 k Greater (sym (apart.1 j None le (omega arith)) ∙ compared j None d (omega arith)))

-- what `ok` and `map_err` answer tells what was before
pub ok_is : (r : Result ℕ ℕ) (i : ℕ) → Some i ≡ result_ok r → r ≡ Ok i
ok_is (Ok j) i e = cc
ok_is (Err j) i e = cc

module _ (r : Result ℕ ℕ) (P Q : ℕ → Type 0) (h : MatchResult r P Q) where
  pub was_ok : (i : ℕ) → ((j : ℕ) → P j → j ≡ i) → ((j : ℕ) → Q j → ⊥) → r ≡ Ok i
  was_ok i same never = elim r as (λ q. MatchResult q P Q → q ≡ Ok i) [ Ok j ↦ λ p. ap Ok (same j p) | Err j ↦ λ q. absurd (never j q) ] h

  pub was_err : ((j : ℕ) → P j → ⊥) → (i : ℕ) × (r ≡ Err i)
  was_err never = elim r as (λ q. MatchResult q P Q → (i : ℕ) × (q ≡ Err i)) [ Ok j ↦ λ p. absurd (never j p) | Err j ↦ λ _. (j, refl) ] h
