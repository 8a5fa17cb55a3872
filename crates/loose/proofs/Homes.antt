-- What a search from a key's home on finds, and what a write into a slot leaves settled.
use Rattle.std.proofs.Common.{◌≡◌, ℕ, ◌<◌, true, false, not, ◌&&◌, eqb, ltb, ◌⊎◌, List, length, get_or, set, is_some, Some, None, Option, sym, refl, ap, ◌∙◌, inl, inr, arith, get_or-set_other, get_or-set_same}
use Rattle.std.proofs.lemmas.List.{get_or_default, get_or_past, length-set}
use Rattle.std.proofs.lemmas.Bool.{and_from, and_parts, or_cases, or_left, or_right, not_from_false, ltb-true, both_ways, eqb-true, cases_eq, cases_Bool, cases_lt, not-true, not-false}
use Rattle.std.proofs.lemmas.Bool.Decides.{nat_tests}
use Rattle.store.specs.Held.{at as value_at}
use Rattle.loose.specs.Homes.{home, on_way, crosses, clear, Settled, SettledBut, Sought, Mover}
use Rattle.loose.specs.Slots.{gathered, holds, passes, Blank}
use Rattle.loose.specs.Gathers.{none_held, none_from}
use Rattle.loose.proofs.Ways.{either_way, way_back}

module _ {V : Type 0} where
  -- where a search for k stops, the slot is free or holds k
  pub stop_cases : (s : Option (ℕ × V)) (k : ℕ) → passes s k ≡ false → (s ≡ None) ⊎ (holds s k ≡ true)
  stop_cases None k e = inl refl
  stop_cases (Some p) k e = inr (not-false (eqb p.0 k) e)

  pub pass_held : (s : Option (ℕ × V)) (k : ℕ) → passes s k ≡ true → (is_some s ≡ true) × (holds s k ≡ false)
  pass_held None k e = absurd (both_ways false refl e)
  pass_held (Some p) k e = (refl, not-true (eqb p.0 k) e)

  -- the home of a slot that holds k
  crosses_held : (n : ℕ) (s : Option (ℕ × V)) (k i j : ℕ) → holds s k ≡ true → crosses n s i j ≡ on_way (home k n) j i
  crosses_held n None k i j h = absurd (both_ways false refl h)
  crosses_held n (Some p) k i j h = ap (λ q. on_way (home q n) j i) (eqb-true p.0 k h)

  -- what `clear` says, and what gives it
  pub clear_way : (n : ℕ) (ss : List (Option (ℕ × V))) (i j : ℕ) → clear n ss i j ≡ true → j < n → crosses n (get_or ss i None) i j ≡ true →
      is_some (get_or ss j None) ≡ true
  clear_way n ss i j c l on = grind (arith, nat_tests, or_cases, and_from, not-true, both_ways)

  way_clear : (n : ℕ) (ss : List (Option (ℕ × V))) (i j : ℕ) →
      (j < n → crosses n (get_or ss i None) i j ≡ true → is_some (get_or ss j None) ≡ true) → clear n ss i j ≡ true
  way_clear n ss i j held = elim (cases_Bool (ltb j n && crosses n (get_or ss i None) i j)) [
    | inl on ↦ let parts = and_parts (ltb j n) (crosses n (get_or ss i None) i j) on in
        or_left (is_some (get_or ss j None)) (not (ltb j n && crosses n (get_or ss i None) i j)) (held (ltb-true j n parts.0) parts.1)
    | inr off ↦ or_right (is_some (get_or ss j None)) (not (ltb j n && crosses n (get_or ss i None) i j))
        (not_from_false (ltb j n && crosses n (get_or ss i None) i j) off)
  ]

  -- a search that stops at a free slot: k is nowhere
  pub absent : (n : ℕ) (ss : List (Option (ℕ × V))) (k i : ℕ) → n ≡ length ss → Settled n ss → Sought n ss k (Some i) →
      get_or ss i None ≡ None → value_at (gathered ss) k ≡ None
  absent n ss k i len ok at free =
      none_held ss k (λ j l. elim (cases_Bool (holds (get_or ss j None) k)) [
        | inr off ↦ off
        | inl on ↦ absurd (elim (cases_Bool (on_way (home k n) j i)) [
          | inl before ↦ both_ways (holds (get_or ss j None) k) (pass_held (get_or ss j None) k (at.2 j (omega arith) before)).1 on
          | inr past ↦ elim (cases_eq i j) [
            | inl same ↦ both_ways (holds (get_or ss j None) k) (ap (λ s. holds s k) (ap (λ m. get_or ss m None) (sym same) ∙ free)) on
            | inr other ↦ both_ways (is_some (get_or ss i None)) (ap is_some free)
                (clear_way n ss j i (ok j i) at.0 (crosses_held n (get_or ss j None) k j i on ∙ either_way (home k n) i j other past))
          ]
        ])
      ])

  -- a search that passes every slot: all are held, and none holds k
  pub all_held : (n : ℕ) (ss : List (Option (ℕ × V))) (k : ℕ) → n ≡ length ss → Sought n ss k None →
      ((j : ℕ) → j < length ss → is_some (get_or ss j None) ≡ true) × (value_at (gathered ss) k ≡ None)
  all_held n ss k len all =
      (λ j l. (pass_held (get_or ss j None) k (all j (omega arith))).0, none_held ss k (λ j l. (pass_held (get_or ss j None) k (all j (omega arith))).1))

  -- what lies in slot j once x lies in slot i
  set_here : (ss : List (Option (ℕ × V))) (i j : ℕ) (x : Option (ℕ × V)) → i < length ss → j ≡ i → get_or (set ss i x) j None ≡ x
  set_here ss i j x l e = ap (λ m. get_or (set ss i x) m None) e ∙ get_or-set_same ss i x None l

  set_there : (ss : List (Option (ℕ × V))) (i j : ℕ) (x : Option (ℕ × V)) → (j ≡ i → ⊥) → get_or (set ss i x) j None ≡ get_or ss j None
  set_there ss i j x ne = get_or-set_other ss i j x None ne

  -- a pair put where the search for its key stops
  pub settled_put : (n : ℕ) (ss : List (Option (ℕ × V))) (k : ℕ) (v : V) (i : ℕ) → n ≡ length ss → Settled n ss → Sought n ss k (Some i) →
      Settled n (set ss i (Some (k, v)))
  settled_put n ss k v i len ok at a b = way_clear n (set ss i (Some (k, v))) a b (λ lb on.
      let x : Option (ℕ × V) = Some (k, v) in
      let l : i < length ss = omega (arith, at.0) in
      elim (cases_eq b i) [
        | inl e ↦ ap is_some (set_here ss i b x l e)
        | inr nb ↦ ap is_some (set_there ss i b x nb) ∙ elim (cases_eq a i) [
          | inl e ↦ (pass_held (get_or ss b None) k (at.2 b lb
              (ap (on_way (home k n) b) (sym e) ∙ sym (ap (λ s. crosses n s a b) (set_here ss i a x l e)) ∙ on))).0
          | inr na ↦ clear_way n ss a b (ok a b) lb (sym (ap (λ s. crosses n s a b) (set_there ss i a x na)) ∙ on)
        ]
      ])

  -- a slot freed: it alone may lie on a pair's way
  pub settled_free : (n : ℕ) (ss : List (Option (ℕ × V))) (i : ℕ) → n ≡ length ss → i < n → Settled n ss → SettledBut n (set ss i None) i
  settled_free n ss i len lt ok a b nb = way_clear n (set ss i None) a b (λ lb on.
      let l : i < length ss = omega arith in
      ap is_some (set_there ss i b None nb) ∙ elim (cases_eq a i) [
        | inl e ↦ absurd (both_ways false refl (sym (ap (λ s. crosses n s a b) (set_here ss i a None l e)) ∙ on))
        | inr na ↦ clear_way n ss a b (ok a b) lb (sym (ap (λ s. crosses n s a b) (set_there ss i a None na)) ∙ on)
      ])

  -- no pair has the hole on its way
  pub settled_all : (n : ℕ) (ss : List (Option (ℕ × V))) (hole : ℕ) → n ≡ length ss → SettledBut n ss hole → Mover n ss hole None → Settled n ss
  settled_all n ss hole len ok none a b = elim (cases_eq b hole) [
    | inr ne ↦ ok a b ne
    | inl e ↦ way_clear n ss a b (λ lb on. elim (cases_lt a n) [
      | inl la ↦ absurd (both_ways (crosses n (get_or ss a None) a hole) (none a la) (ap (crosses n (get_or ss a None) a) (sym e) ∙ on))
      | inr past ↦ absurd (both_ways (crosses n (get_or ss a None) a b) (ap (λ s. crosses n s a b) (get_or_past ss a None (omega arith))) on)
    ])
  ]

  pub crosses_some : (n : ℕ) (s : Option (ℕ × V)) (i j : ℕ) → crosses n s i j ≡ true → is_some s ≡ true
  crosses_some n None i j on = absurd (both_ways false refl on)
  crosses_some n (Some p) i j on = refl

  -- a pair that is moved into a hole on its way has no more slots on its way
  crosses_back : (n : ℕ) (s : Option (ℕ × V)) (i hole j : ℕ) → crosses n s i hole ≡ true → crosses n s hole j ≡ true → crosses n s i j ≡ true
  crosses_back n None i hole j over on = over
  crosses_back n (Some p) i hole j over on = way_back (home p.0 n) j hole i on over

  pub settled_move : (n : ℕ) (ss : List (Option (ℕ × V))) (hole i : ℕ) (x : Option (ℕ × V)) → n ≡ length ss → hole < n → i < n → (i ≡ hole → ⊥) →
      SettledBut n ss hole → x ≡ get_or ss i None → crosses n x i hole ≡ true → SettledBut n (set (set ss hole x) i None) i
  settled_move n ss hole i x len lh li ne ok is over a b nb = way_clear n (set (set ss hole x) i None) a b (λ lb on.
      let ts = set ss hole x in
      let l : i < length ts = omega (arith, length-set ss hole x) in
      let h : hole < length ss = omega arith in
      ap is_some (set_there ts i b None nb) ∙ elim (cases_eq b hole) [
        | inl e ↦ ap is_some (set_here ss hole b x h e) ∙ crosses_some n x i hole over
        | inr bh ↦ ap is_some (set_there ss hole b x bh) ∙ elim (cases_eq a i) [
          | inl e ↦ absurd (both_ways false refl (sym (ap (λ s. crosses n s a b) (set_here ts i a None l e)) ∙ on))
          | inr na ↦ let was : crosses n (get_or ts a None) a b ≡ true = sym (ap (λ s. crosses n s a b) (set_there ts i a None na)) ∙ on in
              elim (cases_eq a hole) [
                | inl e ↦ clear_way n ss i b (ok i b bh) lb (ap (λ s. crosses n s i b) (sym is)
                    ∙ crosses_back n x i hole b over (ap (λ m. crosses n x m b) (sym e) ∙ sym (ap (λ s. crosses n s a b) (set_here ss hole a x h e)) ∙ was))
                | inr ah ↦ clear_way n ss a b (ok a b bh) lb (sym (ap (λ s. crosses n s a b) (set_there ss hole a x ah)) ∙ was)
              ]
        ]
      ])

  pub own_held : (s : Option (ℕ × V)) (k : ℕ) → holds s k ≡ true → passes s k ≡ false
  own_held None k e = refl
  own_held (Some p) k e = ap not e

  -- what a search's stop and a look into the slot tell
  pub held_here : (ss : List (Option (ℕ × V))) (k i : ℕ) (x : Option (ℕ × V)) → i < length ss → passes (get_or ss i None) k ≡ false →
      x ≡ get_or ss i x → true ≡ is_some x → holds (get_or ss i None) k ≡ true
  held_here ss k i x l stop e some = elim (stop_cases (get_or ss i None) k stop) [
    | inr held ↦ held
    | inl free ↦ absurd (both_ways true (some ∙ ap is_some (e ∙ get_or_default ss i x None l ∙ free)) refl)
  ]

  pub free_here : (ss : List (Option (ℕ × V))) (i : ℕ) (x : Option (ℕ × V)) → i < length ss → x ≡ get_or ss i x → false ≡ is_some x → get_or ss i None ≡ None
  free_here ss i x l e none = get_or_default ss i None x l ∙ sym e ∙ none_from x (sym none)

  -- a write leaves the number of slots
  pub resized : (ss : List (Option (ℕ × V))) (i : ℕ) (x : Option (ℕ × V)) → Settled (length ss) (set ss i x) → Settled (length (set ss i x)) (set ss i x)
  resized ss i x ok a b = ap (λ n. clear n (set ss i x) a b) (length-set ss i x) ∙ ok a b

  pub settled_none : (ss : List (Option (ℕ × V))) → Blank ss → Settled (length ss) ss
  settled_none ss none i j =
      let free : get_or ss i None ≡ None
      = elim (cases_lt i (length ss)) [ inl l ↦ none i l | inr past ↦ get_or_past ss i None past ] in
      way_clear (length ss) ss i j (λ l on. absurd (both_ways false refl (sym (ap (λ s. crosses (length ss) s i j) free) ∙ on)))
