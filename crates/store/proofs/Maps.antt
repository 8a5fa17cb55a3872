-- Rising lists of pairs: what a write leaves under each key, in each sum and in each part.
use Rattle.std.proofs.Common.{◌≡◌, ℕ, suc, ◌+◌, ◌*◌, ◌<◌, ◌≤◌, Bool, true, false, cond, eqb, List, [], ◌∷◌, length, Some, None, Option, sym, refl, ap, ◌∙◌, inl, inr, arith}
use Rattle.std.proofs.lemmas.Bool.{cases_order, cases_eq, eq-eqb, ne_eqb, lt-ltb, le-ltb}
use Rattle.std.proofs.lemmas.Bool.Decides.{nat_tests, eqb_tells}
use Rattle.store.specs.Held.{Held, Sound, at, or_else, before, write, From, Rising, find, has, put, take_out, written}
use Rattle.store.specs.Sums.{weigh, sum, kept, passed}

module _ {V : Type 0} where
  pub absent : (i : ℕ) (ps : List (ℕ × V)) → From i ps → (j : ℕ) → j < i → at ps j ≡ None
  absent i [] f j h = refl
  absent i (p ∷ ps) f j h = rw (ne_eqb p.0 j (λ e. omega arith)) (absent (suc p.0) ps f.1 j (omega arith))

  pub later : (i j : ℕ) (ps : List (ℕ × V)) → i ≤ j → From j ps → From i ps
  later i j [] h f = tt
  later i j (p ∷ ps) h f = (omega arith, f.1)

  at_held : (k : ℕ) (o : Option V) (ps : List (ℕ × V)) (j : ℕ) → at ps k ≡ None → at (before k o ps) j ≡ cond (eqb k j) o (at ps j)
  at_held k None ps j e = grind (arith, nat_tests)
  at_held k (Some v) ps j e = refl

  pub at-write : (i : ℕ) (ps : List (ℕ × V)) → From i ps → (k : ℕ) (o : Option V) (j : ℕ) → at (write ps k o) j ≡ cond (eqb k j) o (at ps j)
  at-write i [] f k o j = at_held k o [] j refl
  at-write i (p ∷ ps) f k o j =
      elim (cases_order k p.0) [
        | inl e ↦
            let a : at ps k ≡ None = absent (suc p.0) ps f.1 k (omega arith) in
            let w = at_held k o ps j a in
            rw (le-ltb k p.0 (omega arith), eq-eqb k p.0 e) (w ∙ grind (arith, nat_tests))
        | inr (inl h) ↦
            let a : at (p ∷ ps) k ≡ None = absent p.0 (p ∷ ps) (omega arith, f.1) k h in
            rw (lt-ltb k p.0 h) (at_held k o (p ∷ ps) j a)
        | inr (inr h) ↦
            let w = at-write (suc p.0) ps f.1 k o j in
            rw (le-ltb k p.0 (omega arith), ne_eqb k p.0 (λ e. omega arith), w) (grind (arith, nat_tests))
      ]

  from_held : (i k : ℕ) (o : Option V) (ps : List (ℕ × V)) → i ≤ k → From (suc k) ps → From i (before k o ps)
  from_held i k None ps h f = later i (suc k) ps (omega arith) f
  from_held i k (Some v) ps h f = (h, f)

  pub from-write : (i : ℕ) (ps : List (ℕ × V)) → From i ps → (k : ℕ) (o : Option V) → i ≤ k → From i (write ps k o)
  from-write i [] f k o h = from_held i k o [] h tt
  from-write i (p ∷ ps) f k o h =
      elim (cases_order k p.0) [
        | inl e ↦ rw (le-ltb k p.0 (omega arith), eq-eqb k p.0 e) (from_held i k o ps h (rw (← e) at f.1))
        | inr (inl g) ↦ rw (lt-ltb k p.0 g) (from_held i k o (p ∷ ps) h (g, f.1))
        | inr (inr g) ↦
            rw (le-ltb k p.0 (omega arith), ne_eqb k p.0 (λ e. omega arith))
            (f.0, from-write (suc p.0) ps f.1 k o g)
      ]

  sum_held : (w : V → ℕ) (k : ℕ) (o : Option V) (ps : List (ℕ × V)) → sum w (before k o ps) ≡ weigh w o + sum w ps
  sum_held w k None ps = omega arith
  sum_held w k (Some v) ps = refl

  pub sum-write : (w : V → ℕ) (i : ℕ) (ps : List (ℕ × V)) → From i ps → (k : ℕ) (o : Option V) →
      sum w (write ps k o) + weigh w (at ps k) ≡ sum w ps + weigh w o
  sum-write w i [] f k o = rw (sum_held w k o []) (omega arith)
  sum-write w i (p ∷ ps) f k o =
      elim (cases_order k p.0) [
        | inl e ↦ rw (le-ltb k p.0 (omega arith), eq-eqb k p.0 e, eq-eqb p.0 k (sym e), sum_held w k o ps) (omega arith)
        | inr (inl h) ↦
            let a : at (p ∷ ps) k ≡ None = absent p.0 (p ∷ ps) (omega arith, f.1) k h in
            rw (lt-ltb k p.0 h, a, sum_held w k o (p ∷ ps)) (omega arith)
        | inr (inr h) ↦
            let e = sum-write w (suc p.0) ps f.1 k o in
            rw (le-ltb k p.0 (omega arith), ne_eqb k p.0 (λ e. omega arith), ne_eqb p.0 k (λ e. omega arith)) (omega arith)
      ]

  pub at-kept : (g : V → Bool) (i : ℕ) (ps : List (ℕ × V)) → From i ps → (j : ℕ) → at (kept g ps) j ≡ passed g (at ps j)
  at-kept g i [] f j = refl
  at-kept g i (p ∷ ps) f j =
      let w = at-kept g (suc p.0) ps f.1 j in
      elim (cases_eq p.0 j) [
        | inl e ↦
            let a : at ps j ≡ None = absent (suc p.0) ps f.1 j (omega arith) in
            let n : at (kept g ps) j ≡ None = rw a at w in
            rw (eq-eqb p.0 j e) (elim (g p.1) as (λ b. at (cond b (p ∷ kept g ps) (kept g ps)) j ≡ cond b (Some p.1) None) [
              | true ↦ rw (eq-eqb p.0 j e)
              | false ↦ n
            ])
        | inr d ↦
            rw (ne_eqb p.0 j d) (elim (g p.1) as (λ b. at (cond b (p ∷ kept g ps) (kept g ps)) j ≡ passed g (at ps j)) [
              | true ↦ rw (ne_eqb p.0 j d) w
              | false ↦ w
            ])
      ]

  pub from-kept : (g : V → Bool) (i : ℕ) (ps : List (ℕ × V)) → From i ps → From i (kept g ps)
  from-kept g i [] f = tt
  from-kept g i (p ∷ ps) f =
      let r = from-kept g (suc p.0) ps f.1 in
      elim (g p.1) as (λ b. From i (cond b (p ∷ kept g ps) (kept g ps))) [
        | true ↦ (f.0, r)
        | false ↦ later i (suc p.0) (kept g ps) (omega arith) r
      ]

  -- two rising lists with the same look-ups are one
  pub same : (i j : ℕ) (xs ys : List (ℕ × V)) → From i xs → From j ys → ((k : ℕ) → at xs k ≡ at ys k) → xs ≡ ys
  same i j [] [] f g h = refl
  same i j [] (y ∷ ys) f g h = let e = rw (eq-eqb y.0 y.0 refl) at (h y.0) in cc
  same i j (x ∷ xs) [] f g h = let e = rw (eq-eqb x.0 x.0 refl) at (h x.0) in cc
  same i j (x ∷ xs) (y ∷ ys) f g h =
      elim (cases_order x.0 y.0) [
        | inl e ↦
            let q : Some x.1 ≡ Some y.1 = rw (eq-eqb x.0 x.0 refl, eq-eqb y.0 x.0 (sym e)) at (h x.0) in
            let v : x.1 ≡ y.1 = cc in
            let rest : (k : ℕ) → at xs k ≡ at ys k = λ k.
            elim (cases_eq x.0 k) [
              | inl q ↦ absent (suc x.0) xs f.1 k (omega arith) ∙ sym (absent (suc y.0) ys g.1 k (omega arith))
              | inr d ↦ rw (ne_eqb x.0 k d, ne_eqb y.0 k (λ q. d (e ∙ q))) at (h k)
            ] in
            let t = same (suc x.0) (suc y.0) xs ys f.1 g.1 rest in
            λ n. (e n, v n) ∷ t n
        | inr (inl l) ↦
            let a : at (y ∷ ys) x.0 ≡ None = absent y.0 (y ∷ ys) (omega arith, g.1) x.0 l in
            let q : Some x.1 ≡ at (y ∷ ys) x.0 = rw (eq-eqb x.0 x.0 refl) at (h x.0) in
            cc
        | inr (inr l) ↦
            let a : at (x ∷ xs) y.0 ≡ None = absent x.0 (x ∷ xs) (omega arith, f.1) y.0 l in
            let q : at (x ∷ xs) y.0 ≡ Some y.1 = rw (eq-eqb y.0 y.0 refl) at (h y.0) in
            cc
      ]

  -- writes under different keys change places
  pub write_swap : (ps : List (ℕ × V)) → Rising ps → (k j : ℕ) (o p : Option V) → (k ≡ j → ⊥) → write (write ps k o) j p ≡ write (write ps j p) k o
  write_swap ps f k j o p d =
      let g = from-write 0 ps f k o (omega arith) in
      let h = from-write 0 ps f j p (omega arith) in
      same 0 0 (write (write ps k o) j p) (write (write ps j p) k o) (from-write 0 (write ps k o) g j p (omega arith)) (from-write 0 (write ps j p) h k o (omega arith))
      (λ i.
      let a = at-write 0 (write ps k o) g j p i in
      let b = at-write 0 ps f k o i in
      let c = at-write 0 (write ps j p) h k o i in
      let e = at-write 0 ps f j p i in
      grind (arith, nat_tests))

  -- a part of the pairs takes a write as the whole does, if what is written belongs to it
  pub kept-write : (g : V → Bool) (ps : List (ℕ × V)) → Rising ps → (k : ℕ) (o : Option V) → passed g o ≡ o →
      kept g (write ps k o) ≡ write (kept g ps) k o
  kept-write g ps f k o h =
      let r : Rising (write ps k o) = from-write 0 ps f k o (omega arith) in
      let s : Rising (kept g ps) = from-kept g 0 ps f in
      same 0 0 (kept g (write ps k o)) (write (kept g ps) k o) (from-kept g 0 (write ps k o) r) (from-write 0 (kept g ps) s k o (omega arith))
      (λ j. at-kept g 0 (write ps k o) r j ∙ ap (passed g) (at-write 0 ps f k o j) ∙ pick j
      ∙ ap (cond (eqb k j) o) (sym (at-kept g 0 ps f j)) ∙ sym (at-write 0 (kept g ps) s k o j))
    where
      pick : (j : ℕ) → passed g (cond (eqb k j) o (at ps j)) ≡ cond (eqb k j) o (passed g (at ps j))
      pick j = elim (eqb k j) as (λ b. passed g (cond b o (at ps j)) ≡ cond b o (passed g (at ps j))) [ true ↦ h | false ↦ refl ]

  -- and stays where neither the old nor the new belongs to it
  pub kept_other : (g : V → Bool) (ps : List (ℕ × V)) → Rising ps → (k : ℕ) (o : Option V) → passed g o ≡ None → passed g (at ps k) ≡ None →
      kept g (write ps k o) ≡ kept g ps
  kept_other g ps f k o h a =
      let r : Rising (write ps k o) = from-write 0 ps f k o (omega arith) in
      same 0 0 (kept g (write ps k o)) (kept g ps) (from-kept g 0 (write ps k o) r) (from-kept g 0 ps f)
      (λ j. at-kept g 0 (write ps k o) r j ∙ ap (passed g) (at-write 0 ps f k o j) ∙ pick j ∙ sym (at-kept g 0 ps f j))
    where
      pick : (j : ℕ) → passed g (cond (eqb k j) o (at ps j)) ≡ passed g (at ps j)
      pick j = elim (eqb_tells k j) [
        | inl e ↦ rw (e.0, ← e.1) (h ∙ sym a)
        | inr e ↦ rw e.0
      ]

  pub found : (d : V) (o : Option V) → Some (or_else d o) ≡ o → (v : V) → o ≡ Some v → or_else d o ≡ v
  found d o e v h = cc

  -- what holds of each value, old and new
  pub all-write : (P : V → Type 0) (ps : List (ℕ × V)) → Rising ps → (k : ℕ) (o : Option V) →
      ((j : ℕ) (v : V) → at ps j ≡ Some v → P v) → ((v : V) → o ≡ Some v → P v) → (j : ℕ) (v : V) → at (write ps k o) j ≡ Some v → P v
  all-write P ps f k o old new j v e =
      (elim (eqb k j) as (λ t. cond t o (at ps j) ≡ Some v → P v) [ true ↦ new v | false ↦ old j v ]) (sym (at-write 0 ps f k o j) ∙ e)

  pub sum_below : (w : V → ℕ) (n i : ℕ) (ps : List (ℕ × V)) → From i ps → ((k : ℕ) (v : V) → at ps k ≡ Some v → w v ≤ n) →
      sum w ps ≤ n * sum (λ _. 1) ps
  sum_below w n i [] f h = omega arith
  sum_below w n i (p ∷ ps) f h =
      let r = sum_below w n (suc p.0) ps f.1 (λ k v e. h k v (rest k v e)) in
      let q : w p.1 ≤ n = h p.0 p.1 (rw (eq-eqb p.0 p.0 refl)) in
      omega arith
    where
      rest : (k : ℕ) (v : V) → at ps k ≡ Some v → at (p ∷ ps) k ≡ Some v
      rest k v e =
          elim (eqb_tells p.0 k) [
            | inl q ↦ let a : at ps k ≡ None = absent (suc p.0) ps f.1 k (omega arith) in cc
            | inr q ↦ rw q.0 e
          ]

  pub sum_kept : (w : V → ℕ) (g : V → Bool) (ps : List (ℕ × V)) → sum w (kept g ps) ≤ sum w ps
  sum_kept w g [] = omega arith
  sum_kept w g (p ∷ ps) =
      let r = sum_kept w g ps in
      elim (g p.1) as (λ b. sum w (cond b (p ∷ kept g ps) (kept g ps)) ≤ w p.1 + sum w ps) [ true ↦ omega arith | false ↦ omega arith ]

  pub length-sum : (ps : List (ℕ × V)) → length ps ≡ sum (λ _. 1) ps
  length-sum [] = refl
  length-sum (p ∷ ps) = omega (arith, length-sum ps)

  -- the values of one place, by a number that each carries
  module _ (place : V → ℕ) where
    abbrev pub Of : ℕ → Option V → Type 0
    Of l None = Unit {0}
    Of l (Some v) = place v ≡ l

    passed_of : (l : ℕ) (o : Option V) → Of l o → passed (λ v. eqb (place v) l) o ≡ o
    passed_of l None a = refl
    passed_of l (Some v) a = rw (eq-eqb (place v) l a)

    passed_not : (l i : ℕ) (o : Option V) → Of l o → (l ≡ i → ⊥) → passed (λ v. eqb (place v) i) o ≡ None
    passed_not l i None a d = refl
    passed_not l i (Some v) a d = rw (ne_eqb (place v) i (λ e. d (sym a ∙ e)))

    module _ (ps : List (ℕ × V)) (f : Rising ps) (k l : ℕ) where
      pub own-write : (o : Option V) → Of l o → kept (λ v. eqb (place v) l) (write ps k o) ≡ write (kept (λ v. eqb (place v) l) ps) k o
      own-write o a = kept-write (λ v. eqb (place v) l) ps f k o (passed_of l o a)

      pub other-write : (o : Option V) → Of l o → Of l (at ps k) → (i : ℕ) → (l ≡ i → ⊥) →
          kept (λ v. eqb (place v) i) (write ps k o) ≡ kept (λ v. eqb (place v) i) ps
      other-write o a b i d = kept_other (λ v. eqb (place v) i) ps f k o (passed_not l i o a d) (passed_not l i (at ps k) b d)

      pub own_at : Of l (at ps k) → at (kept (λ v. eqb (place v) l) ps) k ≡ at ps k
      own_at a = at-kept (λ v. eqb (place v) l) 0 ps f k ∙ passed_of l (at ps k) a

      pub of_write : (o : Option V) (j : ℕ) → Of l o → Of l (at ps j) → Of l (at (write ps k o) j)
      of_write o j a b = rw (at-write 0 ps f k o j) (elim (eqb k j) as (λ t. Of l (cond t o (at ps j))) [ true ↦ a | false ↦ b ])

  -- what is taken out leaves a place
  pub put_after_take_out : (h : Held V) (k j : ℕ) (v w : V) → Sound h → find h k ≡ Some w → has h j ≡ false →
      put (take_out h k) j v ≡ written (take_out h k) j (Some v)
  put_after_take_out h k j v w s e n =
      let a = at-write 0 h.pairs s.rising k None j in
      let c = rw e at (sum-write (λ _. 1) 0 h.pairs s.rising k None) in
      let l = length-sum h.pairs in
      let m = length-sum (write h.pairs k None) in
      let i = s.within in
      grind (arith, nat_tests)
