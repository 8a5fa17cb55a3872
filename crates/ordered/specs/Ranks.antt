-- Where a key stands in a rising list of pairs, and what a write at that place makes of the list.
use Rattle.std.specs.Prelude.{◌≡◌, ℕ, zero, suc, ◌<◌, ◌≤◌, true, false, cond, List, [], ◌∷◌, length, get_or, is_some, Some, None, Ok, Err, Option, ◌≢◌, nat_lt, slice_index_or, slice_set, refl}
use Rattle.std.proofs.Common.{inl, inr, sym, ap, arith}
use Rattle.std.proofs.lemmas.Bool.{lt-ltb, le-ltb, eq-eqb, ne_eqb, ltb-false, both_ways, cases_Bool, cases_order, cases_lt, lt-leb, le-leb}
use Rattle.std.proofs.lemmas.Bool.Decides.{nat_tests}
use Rattle.std.specs.List.{insert, remove}
use Rattle.store.specs.Held.{at, from, write, From}
use Rattle.store.proofs.Maps.{absent}
use Rattle.ordered.specs.Slots.{rank, place}

module _ {V : Type 0} where
  -- every key is at or above the lower bound
  pub from_at : (n : ℕ) (ps : List (ℕ × V)) (i : ℕ) (d : ℕ × V) → From n ps → i < length ps → n ≤ (get_or ps i d).0
  from_at n [] i d f l = omega arith
  from_at n (p ∷ ps) zero d f l = f.0
  from_at n (p ∷ ps) (suc i) d f l = let h = from_at (suc p.0) ps i d f.1 (omega arith) in let g = f.0 in omega arith

  pub rank_le : (ps : List (ℕ × V)) (k : ℕ) → rank ps k ≤ length ps
  rank_le [] k = omega arith
  rank_le (p ∷ ps) k = let h = rank_le ps k in grind (arith, nat_tests)

  pub rank_above : (n : ℕ) (ps : List (ℕ × V)) (k i : ℕ) (d : ℕ × V) → From n ps → i < length ps → (get_or ps i d).0 < k → i < rank ps k
  rank_above n [] k i d f l h = omega arith
  rank_above n (p ∷ ps) k zero d f l h = grind (arith, nat_tests)
  rank_above n (p ∷ ps) k (suc i) d f l h =
      let low = from_at (suc p.0) ps i d f.1 (omega arith) in
      let more = rank_above (suc p.0) ps k i d f.1 (omega arith) h in
      grind (arith, nat_tests)

  pub rank_below : (ps : List (ℕ × V)) (k i : ℕ) (d : ℕ × V) → i < length ps → k ≤ (get_or ps i d).0 → rank ps k ≤ i
  rank_below [] k i d l h = omega arith
  rank_below (p ∷ ps) k zero d l h = grind (arith, nat_tests)
  rank_below (p ∷ ps) k (suc i) d l h = let more = rank_below ps k i d (omega arith) h in grind (arith, nat_tests)

  -- what stands at a key's place
  pub at_index : (n : ℕ) (ps : List (ℕ × V)) (k i : ℕ) (d : ℕ × V) → From n ps → i < length ps → (get_or ps i d).0 ≡ k → at ps k ≡ Some (get_or ps i d).1
  at_index n [] k i d f l e = absurd (omega arith)
  at_index n (p ∷ ps) k zero d f l e = grind (arith, nat_tests)
  at_index n (p ∷ ps) k (suc i) d f l e =
      let low = from_at (suc p.0) ps i d f.1 (omega arith) in
      let more = at_index (suc p.0) ps k i d f.1 (omega arith) e in
      grind (arith, nat_tests)

  -- a key that does not stand at its place is not there
  pub at_missing : (n : ℕ) (ps : List (ℕ × V)) (k : ℕ) → From n ps →
      ((d : ℕ × V) → rank ps k < length ps → (get_or ps (rank ps k) d).0 ≢ k) → at ps k ≡ None
  at_missing n [] k f gone = refl
  at_missing n (p ∷ ps) k f gone =
      elim (nat_lt p.0 k) as (λ b. nat_lt p.0 k ≡ b
      → ((d : ℕ × V) → cond b (suc (rank ps k)) 0 < suc (length ps) → (get_or (p ∷ ps) (cond b (suc (rank ps k)) 0) d).0 ≢ k)
      → at (p ∷ ps) k ≡ None) [
        | true ↦ λ t gone. let more = at_missing (suc p.0) ps k f.1 (λ d l. gone d (omega arith)) in grind (arith, nat_tests)
        | false ↦ λ t gone. let ne : p.0 ≡ k → ⊥ = gone p (omega arith) in
            let ge = ltb-false p.0 k t in
            let more = absent (suc p.0) ps f.1 k (omega arith) in grind (arith, nat_tests)
      ]
      refl gone

  -- and one that is there stands at its place
  pub at_place : (n : ℕ) (ps : List (ℕ × V)) (k : ℕ) → From n ps → is_some (at ps k) ≡ true →
      (rank ps k < length ps) × ((d : ℕ × V) → (get_or ps (rank ps k) d).0 ≡ k)
  at_place n [] k f is = absurd (both_ways false refl is)
  at_place n (p ∷ ps) k f is =
      elim (nat_lt p.0 k) as (λ b. nat_lt p.0 k ≡ b
      → (cond b (suc (rank ps k)) 0 < suc (length ps)) × ((d : ℕ × V) → (get_or (p ∷ ps) (cond b (suc (rank ps k)) 0) d).0 ≡ k)) [
        | true ↦ λ t. let more = at_place (suc p.0) ps k f.1 (grind (arith, nat_tests)) in (omega arith, more.1)
        | false ↦ λ t. let ge = ltb-false p.0 k t in
            let more = absent (suc p.0) ps f.1 k (omega arith) in (omega arith, λ d. grind (arith, nat_tests))
      ]
      refl

  -- the first pair at or above a key stands at the key's place
  pub from_rank : (ps : List (ℕ × V)) (k : ℕ) (d : ℕ × V) → rank ps k < length ps → from ps k ≡ Some (slice_index_or ps (rank ps k) d)
  from_rank [] k d l = absurd (omega arith)
  from_rank (p ∷ ps) k d l =
      elim (cases_lt p.0 k) [
        | inl h ↦ rw (lt-leb k p.0 h, lt-ltb p.0 k h) (from_rank ps k d (omega (arith, rw (lt-ltb p.0 k h) at l)))
        | inr h ↦ rw (le-leb k p.0 h, le-ltb p.0 k h) refl
      ]

  pub from_past : (ps : List (ℕ × V)) (k : ℕ) → length ps ≤ rank ps k → from ps k ≡ None
  from_past [] k l = refl
  from_past (p ∷ ps) k l = let more = from_past ps k in grind (arith, nat_tests)

  -- what is written anew goes in at the key's place
  pub write_new : (ps : List (ℕ × V)) (k : ℕ) (v : V) → at ps k ≡ None → write ps k (Some v) ≡ insert ps (rank ps k) (k, v)
  write_new [] k v gone = refl
  write_new (p ∷ ps) k v gone =
      elim (cases_order k p.0) [
        | inl e ↦ let no : Some p.1 ≡ None = rw (eq-eqb p.0 k (sym e)) at gone in cc
        | inr (inl l) ↦ rw (lt-ltb k p.0 l, le-ltb p.0 k (omega arith)) refl
        | inr (inr l) ↦
            rw (le-ltb k p.0 (omega arith), ne_eqb k p.0 (λ e. omega arith), lt-ltb p.0 k l)
            (ap (λ t. p ∷ t) (write_new ps k v (rw (ne_eqb p.0 k (λ e. omega arith)) at gone)))
      ]

  -- what is written over stays at its place
  pub write_there : (n : ℕ) (ps : List (ℕ × V)) (k i : ℕ) (v : V) → From n ps → i < length ps →
      ((d : ℕ × V) → (get_or ps i d).0 ≡ k) → write ps k (Some v) ≡ slice_set ps i (k, v)
  write_there n [] k i v f l e = absurd (omega arith)
  write_there n (p ∷ ps) k zero v f l e = let here = e p in grind (arith, nat_tests)
  write_there n (p ∷ ps) k (suc i) v f l e =
      let low = from_at (suc p.0) ps i p f.1 (omega arith) in
      let here = e p in
      let more = write_there (suc p.0) ps k i v f.1 (omega arith) e in
      grind (arith, nat_tests)

  -- what is taken out leaves its place
  pub write_out : (n : ℕ) (ps : List (ℕ × V)) (k i : ℕ) → From n ps → i < length ps →
      ((d : ℕ × V) → (get_or ps i d).0 ≡ k) → write ps k None ≡ remove ps i
  write_out n [] k i f l e = absurd (omega arith)
  write_out n (p ∷ ps) k zero f l e = let here = e p in grind (arith, nat_tests)
  write_out n (p ∷ ps) k (suc i) f l e =
      let low = from_at (suc p.0) ps i p f.1 (omega arith) in
      let here = e p in
      let more = write_out (suc p.0) ps k i f.1 (omega arith) e in
      grind (arith, nat_tests)

  pub from_ok : (ps : List (ℕ × V)) (k i : ℕ) → Ok i ≡ place ps k → (i ≡ rank ps k) × (is_some (at ps k) ≡ true)
  from_ok ps k i e = (grind (arith, cases_Bool (is_some (at ps k))), grind (arith, cases_Bool (is_some (at ps k))))

  pub from_err : (ps : List (ℕ × V)) (k i : ℕ) → Err i ≡ place ps k → (i ≡ rank ps k) × (at ps k ≡ None)
  from_err ps k i e =
      let gone : is_some (at ps k) ≡ false = grind (arith, cases_Bool (is_some (at ps k))) in
      (grind (arith, cases_Bool (is_some (at ps k))), none (at ps k) gone)
    where
      none : (o : Option V) → is_some o ≡ false → o ≡ None
      none None h = refl
      none (Some v) h = absurd (both_ways true h refl)
