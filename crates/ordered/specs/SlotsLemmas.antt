-- Slots that each hold a pair, as the list of those pairs.
use Rattle.std.specs.Prelude.{◌≡◌, ℕ, zero, suc, ◌^◌, ◌<◌, ◌≤◌, true, false, cond, List, [], ◌∷◌, map, length, get_or, take, drop, set, is_some, Some, None, Ok, Err, Option, slice_index_or, slice_set, refl}
use Rattle.std.proofs.Common.{sym, ap, ◌∙◌, arith}
use Rattle.std.proofs.lemmas.List.{get_or_default, map-append, map-set, take-map, drop-map}
use Rattle.std.proofs.lemmas.Bool.{and_parts, and_from, false≢true, ltb-true, ltb-false, eqb-true, eqb-false}
use Rattle.std.proofs.lemmas.Bool.Decides.{nat_tests}
use Rattle.std.specs.List.{insert, remove}
use Rattle.store.specs.Held.{at, from, write, From, Fit}
use Rattle.store.proofs.Maps.{from-write}
use Rattle.ordered.specs.Slots.{pairs_of, sorted, rank, place, is_below, is_under, value_in}
use Rattle.ordered.specs.Ranks.{rank_above, rank_below, at_index, at_missing, at_place, from_rank, from_past, write_new, write_there, write_out, from_ok, from_err}
use Rattle.store.proofs.Writes.{fit-write}

module _ {V : Type 0} where
  pub parts : (n : ℕ) (p : ℕ × V) (ss : List (Option (ℕ × V))) → sorted n (Some p ∷ ss) ≡ true →
      (n ≤ p.0) × (p.0 < 2 ^ 64) × (sorted (suc p.0) ss ≡ true)
  parts n p ss up = grind (arith, nat_tests, and_parts)

  pub rising : (n : ℕ) (ss : List (Option (ℕ × V))) → sorted n ss ≡ true → From n (pairs_of ss)
  rising n [] up = tt
  rising n (None ∷ ss) up = absurd (false≢true up)
  rising n (Some p ∷ ss) up = let is = parts n p ss up in (is.0, rising (suc p.0) ss is.2)

  pub fit : (n : ℕ) (ss : List (Option (ℕ × V))) → sorted n ss ≡ true → Fit (pairs_of ss)
  fit n [] up = tt
  fit n (None ∷ ss) up = absurd (false≢true up)
  fit n (Some p ∷ ss) up = let is = parts n p ss up in (is.1, fit (suc p.0) ss is.2)

  -- no slot is free
  pub filled : (n : ℕ) (ss : List (Option (ℕ × V))) → sorted n ss ≡ true → ss ≡ map Some (pairs_of ss)
  filled n [] up = refl
  filled n (None ∷ ss) up = absurd (false≢true up)
  filled n (Some p ∷ ss) up = ap (λ t. Some p ∷ t) (filled (suc p.0) ss (parts n p ss up).2)

  pub length_pairs : (n : ℕ) (ss : List (Option (ℕ × V))) → sorted n ss ≡ true → length (pairs_of ss) ≡ length ss
  length_pairs n [] up = refl
  length_pairs n (None ∷ ss) up = absurd (false≢true up)
  length_pairs n (Some p ∷ ss) up = ap suc (length_pairs (suc p.0) ss (parts n p ss up).2)

  pairs_filled : (ps : List (ℕ × V)) → pairs_of (map Some ps) ≡ ps
  pairs_filled [] = refl
  pairs_filled (p ∷ ps) = ap (λ t. p ∷ t) (pairs_filled ps)

  sorted_filled : (n : ℕ) (ps : List (ℕ × V)) → From n ps → Fit ps → sorted n (map Some ps) ≡ true
  sorted_filled n [] f g = refl
  sorted_filled n (p ∷ ps) f g =
      let low = f.0 in let high = g.0 in
      let more = sorted_filled (suc p.0) ps f.1 g.1 in
      grind (arith, nat_tests, and_from)

  -- the pair that a slot holds
  pub pair_at : (n : ℕ) (ss : List (Option (ℕ × V))) (i : ℕ) (x : Option (ℕ × V)) → sorted n ss ≡ true → i < length ss → x ≡ slice_index_or ss i x →
      (p : ℕ × V) × (x ≡ Some p) × (slice_index_or (pairs_of ss) i p ≡ p)
  pair_at n [] i x up l e = absurd (omega arith)
  pair_at n (None ∷ ss) i x up l e = absurd (false≢true up)
  pair_at n (Some p ∷ ss) zero x up l e = (p, e, refl)
  pair_at n (Some p ∷ ss) (suc i) x up l e = pair_at (suc p.0) ss i x (parts n p ss up).2 (omega arith) e

  -- slots that hold what a write leaves mean that, and are sorted
  pub after_write : (ss ts : List (Option (ℕ × V))) (k : ℕ) (o : Option V) → sorted 0 ss ≡ true → k < 2 ^ 64 →
      ts ≡ map Some (write (pairs_of ss) k o) → (pairs_of ts ≡ write (pairs_of ss) k o) × (sorted 0 ts ≡ true)
  after_write ss ts k o up l e = (
    ap pairs_of e ∙ pairs_filled (write (pairs_of ss) k o),
    ap (sorted 0) e ∙ sorted_filled 0 (write (pairs_of ss) k o) (from-write 0 (pairs_of ss) (rising 0 ss up) k o (omega arith))
        (fit-write (pairs_of ss) k o (fit 0 ss up) l),
  )

  inserted_filled : (ps : List (ℕ × V)) (i : ℕ) (p : ℕ × V) → insert (map Some ps) i (Some p) ≡ map Some (insert ps i p)
  inserted_filled ps i p = rw (take-map Some i ps, drop-map Some i ps) (sym (map-append Some (take i ps) (p ∷ drop i ps)))

  removed_filled : (ps : List (ℕ × V)) (i : ℕ) → remove (map Some ps) i ≡ map Some (remove ps i)
  removed_filled ps i = rw (take-map Some i ps, drop-map Some (suc i) ps) (sym (map-append Some (take i ps) (drop (suc i) ps)))

module _ {V : Type 0} (ss : List (Option (ℕ × V))) (up : sorted 0 ss ≡ true) (k i : ℕ) where
  -- A search.

  pub above : (x : Option (ℕ × V)) → i < length ss → x ≡ slice_index_or ss i x → is_below x k ≡ true → i < rank (pairs_of ss) k
  above x l e t =
      let s = pair_at 0 ss i x up l e in
      let lt : s.0.0 < k = ltb-true s.0.0 k (rw s.1 at t) in
      rank_above 0 (pairs_of ss) k i s.0 (rising 0 ss up) (omega (arith, length_pairs 0 ss up)) (rw s.2 lt)

  pub not_above : (x : Option (ℕ × V)) → i < length ss → x ≡ slice_index_or ss i x → is_below x k ≡ false → rank (pairs_of ss) k ≤ i
  not_above x l e t =
      let s = pair_at 0 ss i x up l e in
      let le : k ≤ s.0.0 = ltb-false s.0.0 k (rw s.1 at t) in
      rank_below (pairs_of ss) k i s.0 (omega (arith, length_pairs 0 ss up)) (rw s.2 le)

  pub found : (x : Option (ℕ × V)) → i < length ss → x ≡ slice_index_or ss i x → i ≡ rank (pairs_of ss) k → is_under x k ≡ true → Ok i ≡ place (pairs_of ss) k
  found x l e r t =
      let s = pair_at 0 ss i x up l e in
      let is : s.0.0 ≡ k = eqb-true s.0.0 k (rw s.1 at t) in
      let a = at_index 0 (pairs_of ss) k i s.0 (rising 0 ss up) (omega (arith, length_pairs 0 ss up)) (rw s.2 is) in
      ap Ok r ∙ sym (ap (λ o. cond (is_some o) (Ok (rank (pairs_of ss) k)) (Err (rank (pairs_of ss) k))) a)

  missing : at (pairs_of ss) k ≡ None → i ≡ rank (pairs_of ss) k → Err i ≡ place (pairs_of ss) k
  missing a r = ap Err r ∙ sym (ap (λ o. cond (is_some o) (Ok (rank (pairs_of ss) k)) (Err (rank (pairs_of ss) k))) a)

  pub missing_here : (x : Option (ℕ × V)) → i < length ss → x ≡ slice_index_or ss i x → i ≡ rank (pairs_of ss) k → is_under x k ≡ false → Err i ≡ place (pairs_of ss) k
  missing_here x l e r t =
      let s = pair_at 0 ss i x up l e in
      let n = length_pairs 0 ss up in
      let other : s.0.0 ≡ k → ⊥ = eqb-false s.0.0 k (rw s.1 at t) in
      missing (at_missing 0 (pairs_of ss) k (rising 0 ss up)
      (λ d h is. other (ap (λ p. p.0) (sym s.2 ∙ get_or_default (pairs_of ss) i s.0 d (omega arith)) ∙ ap (λ j. (get_or (pairs_of ss) j d).0) r ∙ is))) r

  pub missing_past : length ss ≤ i → i ≡ rank (pairs_of ss) k → Err i ≡ place (pairs_of ss) k
  missing_past l r = missing (at_missing 0 (pairs_of ss) k (rising 0 ss up) (λ d h is. omega (arith, length_pairs 0 ss up))) r

  -- What a place gives.

  there : Ok i ≡ place (pairs_of ss) k → (is_some (at (pairs_of ss) k) ≡ true) × (i < length (pairs_of ss)) × ((d : ℕ × V) → (get_or (pairs_of ss) i d).0 ≡ k)
  there e =
      let ok = from_ok (pairs_of ss) k i e in
      let a = at_place 0 (pairs_of ss) k (rising 0 ss up) ok.1 in
      (ok.1, omega arith, λ d. ap (λ j. (get_or (pairs_of ss) j d).0) ok.0 ∙ a.1 d)

  pub has_there : Ok i ≡ place (pairs_of ss) k → is_some (at (pairs_of ss) k) ≡ true
  has_there e = (there e).0

  pub none_there : Err i ≡ place (pairs_of ss) k → at (pairs_of ss) k ≡ None
  none_there e = (from_err (pairs_of ss) k i e).1

  pub get_there : (x : Option (ℕ × V)) → i < length ss → x ≡ slice_index_or ss i x → Ok i ≡ place (pairs_of ss) k → value_in x ≡ at (pairs_of ss) k
  get_there x l e o =
      let s = pair_at 0 ss i x up l e in
      let is = there o in
      ap value_in s.1 ∙ sym (at_index 0 (pairs_of ss) k i s.0 (rising 0 ss up) is.1 (is.2 s.0) ∙ ap (λ p. Some p.1) s.2)

  pub first_there : (x : Option (ℕ × V)) → i < length ss → x ≡ slice_index_or ss i x → i ≡ rank (pairs_of ss) k → x ≡ from (pairs_of ss) k
  first_there x l e r =
      let s = pair_at 0 ss i x up l e in
      s.1 ∙ ap Some (sym s.2 ∙ ap (λ j. get_or (pairs_of ss) j s.0) r)
      ∙ sym (from_rank (pairs_of ss) k s.0 (omega (arith, length_pairs 0 ss up)))

  pub first_past : length ss ≤ i → i ≡ rank (pairs_of ss) k → None ≡ from (pairs_of ss) k
  first_past l r = sym (from_past (pairs_of ss) k (omega (arith, length_pairs 0 ss up)))

  -- What a write at a place makes.

  pub put_there : (v : V) → Err i ≡ place (pairs_of ss) k → insert ss i (Some (k, v)) ≡ map Some (write (pairs_of ss) k (Some v))
  put_there v e =
      let gone = from_err (pairs_of ss) k i e in
      ap (λ t. insert t i (Some (k, v))) (filled 0 ss up) ∙ inserted_filled (pairs_of ss) i (k, v)
      ∙ ap (map Some) (ap (λ j. insert (pairs_of ss) j (k, v)) gone.0 ∙ sym (write_new (pairs_of ss) k v gone.1))

  pub change_there : (v : V) → Ok i ≡ place (pairs_of ss) k → slice_set ss i (Some (k, v)) ≡ map Some (write (pairs_of ss) k (Some v))
  change_there v e =
      let is = there e in
      ap (λ t. set t i (Some (k, v))) (filled 0 ss up) ∙ sym (map-set Some (pairs_of ss) i (k, v))
      ∙ ap (map Some) (sym (write_there 0 (pairs_of ss) k i v (rising 0 ss up) is.1 is.2))

  pub out_there : Ok i ≡ place (pairs_of ss) k → remove ss i ≡ map Some (write (pairs_of ss) k None)
  out_there e =
      let is = there e in
      ap (λ t. remove t i) (filled 0 ss up) ∙ removed_filled (pairs_of ss) i
      ∙ ap (map Some) (sym (write_out 0 (pairs_of ss) k i (rising 0 ss up) is.1 is.2))
