-- What slots hold, and what a write into one of them makes of it.
use Rattle.std.specs.Prelude.{◌≡◌, ℕ, zero, suc, ◌^◌, ◌<◌, ◌≤◌, true, false, cond, List, [], ◌∷◌, length, is_some, Some, None, Option, ◌==◌, ◌≢◌, slice_index_or, slice_set, refl}
use Rattle.std.proofs.Common.{inl, inr, sym, ap, ◌∙◌, arith}
use Rattle.std.proofs.lemmas.List.{set-get_or}
use Rattle.std.proofs.lemmas.Bool.{and_parts, and_from, not-true, not-false, not_from_false, both_ways, eqb-true}
use Rattle.std.proofs.lemmas.Bool.Decides.{nat_tests, eqb_tells}
use Rattle.std.specs.Option.{option_map}
use Rattle.store.specs.Held.{at, write, Rising, Fit}
use Rattle.store.proofs.Maps.{at-write, from-write, same}
use Rattle.loose.specs.Slots.{gathered, distinct, holds, passes, Blank}
use Rattle.store.proofs.Writes.{fit-write, length-write}

pub none_from : {A : Type 0} (o : Option A) → is_some o ≡ false → o ≡ None
none_from None e = refl
none_from (Some x) e = absurd (both_ways true e refl)

pub not_none : {A : Type 0} (x : A) → Some x ≢ None
not_none x e = both_ways true (ap is_some e) refl

module _ {V : Type 0} where
  pub rising : (ss : List (Option (ℕ × V))) → Rising (gathered ss)
  rising [] = tt
  rising (None ∷ ss) = rising ss
  rising (Some p ∷ ss) = from-write 0 (gathered ss) (rising ss) p.0 (Some p.1) (omega arith)

  at_slot : (p : ℕ × V) (ss : List (Option (ℕ × V))) (k : ℕ) → at (gathered (Some p ∷ ss)) k ≡ cond (p.0 == k) (Some p.1) (at (gathered ss) k)
  at_slot p ss k = at-write 0 (gathered ss) (rising ss) p.0 (Some p.1) k

  pub distinct_parts : (p : ℕ × V) (ss : List (Option (ℕ × V))) → distinct (Some p ∷ ss) ≡ true →
      (p.0 < 2 ^ 64) × (at (gathered ss) p.0 ≡ None) × (distinct ss ≡ true)
  distinct_parts p ss d =
      let new : is_some (at (gathered ss) p.0) ≡ false = grind (arith, nat_tests, and_parts, not-true) in
      (grind (arith, nat_tests, and_parts), none_from (at (gathered ss) p.0) new, grind (arith, and_parts))

  distinct_more : (p : ℕ × V) (ss : List (Option (ℕ × V))) → p.0 < 2 ^ 64 → at (gathered ss) p.0 ≡ None → distinct ss ≡ true →
      distinct (Some p ∷ ss) ≡ true
  distinct_more p ss fits new d = let none = ap is_some new in grind (arith, nat_tests, and_from, not_from_false)

  pub fit : (ss : List (Option (ℕ × V))) → distinct ss ≡ true → Fit (gathered ss)
  fit [] d = tt
  fit (None ∷ ss) d = fit ss d
  fit (Some p ∷ ss) d =
      let parts = distinct_parts p ss d in fit-write (gathered ss) p.0 (Some p.1) (fit ss parts.2) parts.0

  -- How many pairs there are.

  pub gathered_le : (ss : List (Option (ℕ × V))) → length (gathered ss) ≤ length ss
  gathered_le [] = omega arith
  gathered_le (None ∷ ss) = omega (arith, gathered_le ss)
  gathered_le (Some p ∷ ss) = omega (arith, gathered_le ss, length-write (gathered ss) (rising ss) p.0 (Some p.1))

  pub gathered_free : (ss : List (Option (ℕ × V))) (i : ℕ) → i < length ss → slice_index_or ss i None ≡ None → length (gathered ss) < length ss
  gathered_free [] i l e = omega arith
  gathered_free (None ∷ ss) zero l e = omega (arith, gathered_le ss)
  gathered_free (Some p ∷ ss) zero l e = absurd (not_none p e)
  gathered_free (None ∷ ss) (suc i) l e = omega (arith, gathered_free ss i (omega arith) e)
  gathered_free (Some p ∷ ss) (suc i) l e =
      omega (arith, gathered_free ss i (omega arith) e, length-write (gathered ss) (rising ss) p.0 (Some p.1))

  pub gathered_full : (ss : List (Option (ℕ × V))) → distinct ss ≡ true → ((i : ℕ) → i < length ss → is_some (slice_index_or ss i None) ≡ true) →
      length (gathered ss) ≡ length ss
  gathered_full [] d full = refl
  gathered_full (None ∷ ss) d full = absurd (both_ways false refl (full 0 (omega arith)))
  gathered_full (Some p ∷ ss) d full =
      let parts = distinct_parts p ss d in
      let more = gathered_full ss parts.2 (λ i l. full (suc i) (omega arith)) in
      let new = rw parts.1 at (length-write (gathered ss) (rising ss) p.0 (Some p.1)) in
      omega arith

  pub gathered_none : (ss : List (Option (ℕ × V))) → Blank ss → (gathered ss ≡ []) × (distinct ss ≡ true)
  gathered_none [] none = (refl, refl)
  gathered_none (None ∷ ss) none = gathered_none ss (λ i l. none (suc i) (omega arith))
  gathered_none (Some p ∷ ss) none = absurd (not_none p (none 0 (omega arith)))

  -- What is under a key.

  pub has_held : (ss : List (Option (ℕ × V))) (i k : ℕ) → i < length ss → holds (slice_index_or ss i None) k ≡ true → is_some (at (gathered ss) k) ≡ true
  has_held [] i k l h = absurd (omega arith)
  has_held (None ∷ ss) zero k l h = absurd (both_ways false refl h)
  has_held (Some p ∷ ss) zero k l h = ap is_some (at_slot p ss k) ∙ ap (λ b. is_some (cond b (Some p.1) (at (gathered ss) k))) h
  has_held (None ∷ ss) (suc i) k l h = has_held ss i k (omega arith) h
  has_held (Some p ∷ ss) (suc i) k l h =
      let e = at_slot p ss k in let more = has_held ss i k (omega arith) h in grind (arith, nat_tests)

  pub none_held : (ss : List (Option (ℕ × V))) (k : ℕ) → ((i : ℕ) → i < length ss → holds (slice_index_or ss i None) k ≡ false) → at (gathered ss) k ≡ None
  none_held [] k none = refl
  none_held (None ∷ ss) k none = none_held ss k (λ i l. none (suc i) (omega arith))
  none_held (Some p ∷ ss) k none =
      at_slot p ss k ∙ ap (λ b. cond b (Some p.1) (at (gathered ss) k)) (none 0 (omega arith))
      ∙ none_held ss k (λ i l. none (suc i) (omega arith))

  -- where a later slot holds k, the first holds another key
  apart : (p : ℕ × V) (ss : List (Option (ℕ × V))) (i k : ℕ) → i < length ss → holds (slice_index_or ss i None) k ≡ true → distinct (Some p ∷ ss) ≡ true →
      p.0 ≢ k
  apart p ss i k l h d e =
      both_ways (is_some (at (gathered ss) k)) (ap is_some (ap (at (gathered ss)) (sym e) ∙ (distinct_parts p ss d).1)) (has_held ss i k l h)

  pub at_held : (ss : List (Option (ℕ × V))) (i k : ℕ) (x : Option (ℕ × V)) → distinct ss ≡ true → i < length ss →
      holds (slice_index_or ss i None) k ≡ true → x ≡ slice_index_or ss i x → option_map (λ p. p.1) x ≡ at (gathered ss) k
  at_held [] i k x d l h e = absurd (omega arith)
  at_held (None ∷ ss) zero k x d l h e = absurd (both_ways false refl h)
  at_held (Some q ∷ ss) zero k x d l h e =
      ap (option_map (λ p. p.1)) e ∙ sym (at_slot q ss k ∙ ap (λ b. cond b (Some q.1) (at (gathered ss) k)) h)
  at_held (None ∷ ss) (suc i) k x d l h e = at_held ss i k x d (omega arith) h e
  at_held (Some q ∷ ss) (suc i) k x d l h e =
      let more = at_held ss i k x (distinct_parts q ss d).2 (omega arith) h e in
      let f = at_slot q ss k in
      let ne = apart q ss i k (omega arith) h d in
      grind (arith, nat_tests)

  -- A write into a slot that is free or holds k, where no other holds k.

  -- no other slot holds the key of a slot
  pub alone : (ss : List (Option (ℕ × V))) (i k : ℕ) → distinct ss ≡ true → i < length ss → holds (slice_index_or ss i None) k ≡ true →
      at (gathered (slice_set ss i None)) k ≡ None
  alone [] i k d l h = absurd (omega arith)
  alone (None ∷ ss) zero k d l h = absurd (both_ways false refl h)
  alone (Some p ∷ ss) zero k d l h = ap (at (gathered ss)) (sym (eqb-true p.0 k h)) ∙ (distinct_parts p ss d).1
  alone (None ∷ ss) (suc i) k d l h = alone ss i k d (omega arith) h
  alone (Some p ∷ ss) (suc i) k d l h =
      let more = alone ss i k (distinct_parts p ss d).2 (omega arith) h in
      let f = at_slot p (slice_set ss i None) k in
      let ne = apart p ss i k (omega arith) h d in
      grind (arith, nat_tests)

  pub alone_free : (ss : List (Option (ℕ × V))) (i k : ℕ) → slice_index_or ss i None ≡ None → at (gathered ss) k ≡ None → at (gathered (slice_set ss i None)) k ≡ None
  alone_free ss i k free gone = ap (λ x. at (gathered (slice_set ss i x)) k) (sym free) ∙ ap (λ t. at (gathered t) k) (set-get_or ss i None) ∙ gone

  -- the slot with a pair of k, if there is a value for it
  abbrev pub slot_of : ℕ → Option V → Option (ℕ × V)
  slot_of k None = None
  slot_of k (Some v) = Some (k, v)

  at_own : (k : ℕ) (o : Option V) (ss : List (Option (ℕ × V))) (q : ℕ) → at (gathered ss) k ≡ None →
      at (gathered (slot_of k o ∷ ss)) q ≡ cond (k == q) o (at (gathered ss) q)
  at_own k None ss q gone = elim (eqb_tells k q) [
    | inl e ↦ rw e.0 (ap (at (gathered ss)) (sym e.1) ∙ gone)
    | inr e ↦ rw e.0
  ]
  at_own k (Some v) ss q gone = at_slot (k, v) ss q

  at_others : (k : ℕ) (o : Option V) (s : Option (ℕ × V)) (ss : List (Option (ℕ × V))) (q : ℕ) → passes s k ≡ false →
      cond (k == q) o (at (gathered ss) q) ≡ cond (k == q) o (at (gathered (s ∷ ss)) q)
  at_others k o None ss q own = refl
  at_others k o (Some p) ss q own =
      let e = eqb-true p.0 k (not-false (p.0 == k) own) in
      let f = at_slot p ss q in
      grind (arith, nat_tests)

  module _ (k : ℕ) (o : Option V) where
    pub at_set : (ss : List (Option (ℕ × V))) (i q : ℕ) → i < length ss → passes (slice_index_or ss i None) k ≡ false → at (gathered (slice_set ss i None)) k ≡ None →
        at (gathered (slice_set ss i (slot_of k o))) q ≡ cond (k == q) o (at (gathered ss) q)
    at_set [] i q l own gone = absurd (omega arith)
    at_set (s ∷ ss) zero q l own gone = at_own k o ss q gone ∙ at_others k o s ss q own
    at_set (None ∷ ss) (suc i) q l own gone = at_set ss i q (omega arith) own gone
    at_set (Some p ∷ ss) (suc i) q l own gone =
        let old = at_slot p (slice_set ss i None) k in
        let more = at_set ss i q (omega arith) own (grind (arith, nat_tests, not_none)) in
        let a = at_slot p (slice_set ss i (slot_of k o)) q in
        let b = at_slot p ss q in
        grind (arith, nat_tests, not_none)

    distinct_own : (ss : List (Option (ℕ × V))) → (w : Option V) → k < 2 ^ 64 → at (gathered ss) k ≡ None → distinct ss ≡ true → distinct (slot_of k w ∷ ss) ≡ true
    distinct_own ss None fits gone d = d
    distinct_own ss (Some v) fits gone d = distinct_more (k, v) ss fits gone d

    distinct_rest : (s : Option (ℕ × V)) (ss : List (Option (ℕ × V))) → distinct (s ∷ ss) ≡ true → distinct ss ≡ true
    distinct_rest None ss d = d
    distinct_rest (Some p) ss d = (distinct_parts p ss d).2

    pub distinct_set : (ss : List (Option (ℕ × V))) (i : ℕ) → k < 2 ^ 64 → i < length ss → passes (slice_index_or ss i None) k ≡ false →
        at (gathered (slice_set ss i None)) k ≡ None → distinct ss ≡ true → distinct (slice_set ss i (slot_of k o)) ≡ true
    distinct_set [] i fits l own gone d = refl
    distinct_set (s ∷ ss) zero fits l own gone d = distinct_own ss o fits gone (distinct_rest s ss d)
    distinct_set (None ∷ ss) (suc i) fits l own gone d = distinct_set ss i fits (omega arith) own gone d
    distinct_set (Some p ∷ ss) (suc i) fits l own gone d =
        let parts = distinct_parts p ss d in
        let old = at_slot p (slice_set ss i None) k in
        let rest : at (gathered (slice_set ss i None)) k ≡ None = grind (arith, nat_tests, not_none) in
        let a = at_set ss i p.0 (omega arith) own rest in
        distinct_more p (slice_set ss i (slot_of k o)) parts.0 (grind (arith, nat_tests, not_none)) (distinct_set ss i fits (omega arith) own rest parts.2)

    pub gathered_set : (ss : List (Option (ℕ × V))) (i : ℕ) → i < length ss → passes (slice_index_or ss i None) k ≡ false → at (gathered (slice_set ss i None)) k ≡ None →
        gathered (slice_set ss i (slot_of k o)) ≡ write (gathered ss) k o
    gathered_set ss i l own gone =
        same 0 0 _ _ (rising (slice_set ss i (slot_of k o))) (from-write 0 (gathered ss) (rising ss) k o (omega arith))
        (λ q. at_set ss i q l own gone ∙ sym (at-write 0 (gathered ss) (rising ss) k o q))
