-- How a hole that a pair leaves is closed: which pair moves into it, and what that leaves.
use Rattle.std.proofs.Common.{◌≡◌, ℕ, zero, suc, ◌+◌, ◌^◌, ◌<◌, true, false, cond, eqb, List, [], ◌∷◌, length, get_or, set, is_some, Some, None, Option, sym, refl, ap, ◌∙◌, subst, inl, inr, arith, get_or-set_other, get_or-set_same}
use Rattle.std.proofs.lemmas.List.{get_or_default, length-set, set_comm}
use Rattle.std.proofs.lemmas.Bool.{both_ways, cases_eq, cases_Bool, not-true, not-false, eq-eqb}
use Rattle.std.proofs.lemmas.Bool.Decides.{nat_tests}
use Rattle.std.specs.Option.{option_map, option_and}
use Rattle.store.specs.Held.{at as value_at}
use Rattle.store.proofs.Maps.{same}
use Rattle.loose.specs.Homes.{home, on_way, crosses, clear, SettledBut, Closing, stays, Ended, Mover}
use Rattle.loose.specs.Slots.{gathered, distinct, holds, passes}
use Rattle.loose.specs.Gathers.{rising, at_held, at_set, distinct_set, distinct_parts, alone, alone_free, not_none}
use Rattle.loose.proofs.Homes.{clear_way, crosses_some, settled_move, own_held, free_here}
use Rattle.loose.proofs.Ways.{home_le, either_way, way_on, far, far_less}

module _ {V : Type 0} where
  stays_off : (n : ℕ) (s : Option (ℕ × V)) (i hole : ℕ) → stays n s i hole ≡ true → crosses n s i hole ≡ false
  stays_off n None i hole e = refl
  stays_off n (Some p) i hole e = not-true (on_way (home p.0 n) hole i) e

  crosses_none : (n : ℕ) (s : Option (ℕ × V)) (i j : ℕ) → s ≡ None → crosses n s i j ≡ false
  crosses_none n s i j e = ap (λ t. crosses n t i j) e

  crosses_on : (n : ℕ) (s : Option (ℕ × V)) (j hole f : ℕ) → crosses n s j hole ≡ true → on_way (suc hole) f j ≡ true → crosses n s j f ≡ true
  crosses_on n None j hole f over after = over
  crosses_on n (Some p) j hole f over after = way_on (home p.0 n) hole f j over after

  -- beyond a free slot no pair has the hole on its way
  beyond : (n : ℕ) (ss : List (Option (ℕ × V))) (hole f j : ℕ) → SettledBut n ss hole → f < n → (f ≡ hole → ⊥) → get_or ss f None ≡ None →
      on_way (suc hole) f j ≡ true → crosses n (get_or ss j None) j hole ≡ false
  beyond n ss hole f j ok lt ne free after = elim (cases_Bool (crosses n (get_or ss j None) j hole)) [
    | inr off ↦ off
    | inl over ↦ absurd (both_ways (is_some (get_or ss f None)) (ap is_some free)
        (clear_way n ss j f (ok j f ne) lt (crosses_on n (get_or ss j None) j hole f over after)))
  ]

  -- what that search's end says
  pub mover_free : (n : ℕ) (ss : List (Option (ℕ × V))) (hole i : ℕ) → SettledBut n ss hole → Ended n ss hole (Some i) →
      get_or ss i None ≡ None → Mover n ss hole None
  mover_free n ss hole i ok at free j l = elim (cases_Bool (on_way (suc hole) i j)) [
    | inl after ↦ beyond n ss hole i j ok at.0 at.1 free after
    | inr off ↦ elim (cases_eq j i) [
      | inl e ↦ crosses_none n (get_or ss j None) j hole (ap (λ m. get_or ss m None) e ∙ free)
      | inr ne ↦ stays_off n (get_or ss j None) j hole (at.3 j l (either_way (suc hole) j i ne off))
    ]
  ]

  pub mover_held : (ss : List (Option (ℕ × V))) (hole i : ℕ) → Closing ss hole → Ended (length ss) ss hole (Some i) → (x : Option (ℕ × V)) (r : Option ℕ) →
      x ≡ get_or ss i x → r ≡ option_and x (Some i) → Mover (length ss) ss hole r
  mover_held ss hole i was at None r is e = rw e (mover_free (length ss) ss hole i was.4 at (free_here ss i None at.0 is refl))
  mover_held ss hole i was at (Some p) r is e =
      let here : get_or ss i None ≡ Some p = get_or_default ss i None (Some p) at.0 ∙ sym is in
      rw (e, here) (at.0, not-false (on_way (home p.0 (length ss)) hole i) (rw here at at.2))

  held_fits : (ss : List (Option (ℕ × V))) (i : ℕ) (p : ℕ × V) → distinct ss ≡ true → i < length ss → Some p ≡ get_or ss i None → p.0 < 2 ^ 64
  held_fits [] i p d l is = absurd (omega arith)
  held_fits (None ∷ ss) zero p d l is = absurd (not_none p is)
  held_fits (Some q ∷ ss) zero p d l is =
      let parts = distinct_parts q ss d in
      let keys : option_map (λ r. r.0) (Some p) ≡ option_map (λ r. r.0) (Some q) = ap (option_map (λ r. r.0)) is in
      let same : p.0 ≡ q.0 = cc in
      omega arith
  held_fits (None ∷ ss) (suc i) p d l is = held_fits ss i p d (omega arith) is
  held_fits (Some q ∷ ss) (suc i) p d l is = held_fits ss i p (distinct_parts q ss d).2 (omega arith) is

  -- the pair that moves keeps its key and value
  pub moved_pairs : (ss : List (Option (ℕ × V))) (hole i : ℕ) (x : Option (ℕ × V)) → hole < length ss → i < length ss → (i ≡ hole → ⊥) →
      get_or ss hole None ≡ None → distinct ss ≡ true → x ≡ get_or ss i None → is_some x ≡ true →
      (gathered (set (set ss hole x) i None) ≡ gathered ss) × (distinct (set (set ss hole x) i None) ≡ true)
  moved_pairs ss hole i None lh li ne gone d is some = absurd (both_ways false refl some)
  moved_pairs ss hole i (Some p) lh li ne gone d is some =
      let us = set ss i None in
      let k = p.0 in
      let held : holds (get_or ss i None) k ≡ true = ap (λ s. holds s k) (sym is) ∙ eq-eqb k k refl in
      let own = own_held (get_or ss i None) k held in
      let fits = held_fits ss i p d li is in
      let new = alone ss i k d li held in
      let du : distinct us ≡ true = distinct_set k None ss i fits li own new d in
      let lu : hole < length us = omega (arith, length-set ss i None) in
      let empty : get_or us hole None ≡ None = get_or-set_other ss i hole None None (λ e. ne (sym e)) ∙ gone in
      let own' = ap (λ s. passes s k) empty in
      let new' = alone_free us hole k empty new in
      let swap : set (set ss hole (Some p)) i None ≡ set us hole (Some p) = set_comm ss hole i (Some p) None (λ e. ne (sym e)) in (
        ap gathered swap ∙ same 0 0 _ _ (rising (set us hole (Some p))) (rising ss)
            (λ q.
            let a : value_at (gathered (set us hole (Some p))) q ≡ cond (eqb k q) (Some p.1) (value_at (gathered us) q)
            = at_set k (Some p.1) us hole q lu own' new' in
            let b : value_at (gathered us) q ≡ cond (eqb k q) None (value_at (gathered ss) q) = at_set k None ss i q li own new in
            let here : k ≡ q → Some p.1 ≡ value_at (gathered ss) q
            = λ e. at_held ss i q (Some p) d li (ap (λ m. holds (get_or ss i None) m) (sym e) ∙ held) (is ∙ get_or_default ss i None (Some p) li) in
            grind (arith, nat_tests)),
        ap distinct swap ∙ distinct_set k (Some p.1) us hole fits lu own' new' du,
      )

  -- how far a slot's pair lies from its home, and all pairs together
  abbrev gap : ℕ → Option (ℕ × V) → ℕ → ℕ
  gap n None i = 0
  gap n (Some p) i = far n (home p.0 n) i

  abbrev pub spread : ℕ → ℕ → List (Option (ℕ × V)) → ℕ
  spread n o [] = 0
  spread n o (s ∷ ss) = gap n s o + spread n (suc o) ss

  spread_set : (n o : ℕ) (ss : List (Option (ℕ × V))) (i m : ℕ) (x : Option (ℕ × V)) → i < length ss → m ≡ o + i →
      spread n o (set ss i x) + gap n (get_or ss i None) m ≡ spread n o ss + gap n x m
  spread_set n o [] i m x l e = absurd (omega arith)
  spread_set n o (s ∷ ss) zero m x l e =
      let here : m ≡ o = omega arith in
      omega (arith, ap (gap n x) here, ap (gap n s) here)
  spread_set n o (s ∷ ss) (suc i) m x l e = omega (arith, spread_set n (suc o) ss i m x (omega arith) (omega arith))

  gap_less : (n : ℕ) (s : Option (ℕ × V)) (hole i : ℕ) → hole < n → crosses n s i hole ≡ true → gap n s hole < gap n s i
  gap_less n None hole i lt over = absurd (both_ways false refl over)
  gap_less n (Some p) hole i lt over = far_less n (home p.0 n) hole i (home_le p.0 n) lt over

  pub spread_move : (n : ℕ) (ss : List (Option (ℕ × V))) (hole i : ℕ) (x : Option (ℕ × V)) → n ≡ length ss → hole < n → i < n → (i ≡ hole → ⊥) →
      get_or ss hole None ≡ None → x ≡ get_or ss i None → crosses n x i hole ≡ true → spread n 0 (set (set ss hole x) i None) < spread n 0 ss
  spread_move n ss hole i x len lh li ne gone is over =
      let ts = set ss hole x in
      let a = spread_set n 0 ss hole hole x (omega arith) (omega arith) in
      let b = spread_set n 0 ts i i None (omega (arith, length-set ss hole x)) (omega arith) in
      let there : get_or ts i None ≡ x = get_or-set_other ss hole i x None ne ∙ sym is in
      let none : gap n (get_or ss hole None) hole ≡ 0 = ap (λ s. gap n s hole) gone in
      let old : gap n (get_or ts i None) i ≡ gap n x i = ap (λ s. gap n s i) there in
      omega (arith, a, b, none, old, gap_less n x hole i lh over)

  -- a pair with the hole on its way moves into it, which leaves a hole at its slot
  pub moved : (ss : List (Option (ℕ × V))) (hole i : ℕ) → Closing ss hole → Mover (length ss) ss hole (Some i) →
      (ts : List (Option (ℕ × V))) → ts ≡ set (set ss hole (get_or ss i None)) i None →
      Closing ts i × (gathered ts ≡ gathered ss) × (spread (length ts) 0 ts < spread (length ss) 0 ss)
  moved ss hole i was over ts e =
      let n = length ss in
      let x = get_or ss i None in
      let us = set (set ss hole x) i None in
      let ne : i ≡ hole → ⊥
      = λ same. both_ways (crosses n x i hole) (crosses_none n x i hole (ap (λ m. get_or ss m None) same ∙ was.3)) over.1 in
      let len : length us ≡ n = length-set (set ss hole x) i None ∙ length-set ss hole x in
      let some = crosses_some n x i hole over.1 in
      let pairs = moved_pairs ss hole i x was.2 over.0 ne was.3 was.1 refl some in
      let kept = settled_move n ss hole i x refl was.2 over.0 ne was.4 refl over.1 in
      let less = spread_move n ss hole i x refl was.2 over.0 ne was.3 refl over.1 in
      let lt : i < length us = omega (arith, over.0) in
      let here : Closing us i
      = (
        omega (arith, was.0),
        pairs.1,
        lt,
        get_or-set_same (set ss hole x) i None None (omega (arith, over.0, length-set ss hole x)),
        λ a b nb. ap (λ m. clear m us a b) len ∙ kept a b nb,
      ) in
      let fewer : spread (length us) 0 us < spread n 0 ss = subst (λ (m : ℕ). spread m 0 us < spread n 0 ss) (sym len) less in
      let P : List (Option (ℕ × V)) → Type 0
      = λ vs. Closing vs i × (gathered vs ≡ gathered ss) × (spread (length vs) 0 vs < spread (length ss) 0 ss) in
      subst P (sym e) (here, pairs.0, fewer)
