-- Writes into rising lists of pairs, and what a store answers and holds after them.
use Rattle.std.proofs.Common.{◌≡◌, ℕ, ◌+◌, ◌^◌, ◌<◌, true, false, List, [], ◌∷◌, length, is_some, Some, None, Ok, Err, Option, refl, inl, inr, arith}
use Rattle.std.proofs.lemmas.Bool.{both_ways, eq-eqb, ne_eqb, lt-ltb, le-ltb, cases_order}
use Rattle.std.proofs.lemmas.Bool.Decides.{nat_tests}
use Rattle.store.specs.Held.{Held, at, before, write, Rising, Fit, find, has, puts, put, changes, change, written}
use Rattle.store.specs.Sums.{weigh}
use Rattle.store.specs.declared.PutRefusal.TheVariants.{Full}
use Rattle.store.proofs.Maps.{length-sum, sum-write}

module _ {V : Type 0} where
  -- where a key is not there, nothing goes
  pub write_absent : (ps : List (ℕ × V)) (k : ℕ) → at ps k ≡ None → write ps k None ≡ ps
  write_absent [] k gone = refl
  write_absent (p ∷ ps) k gone = let more = write_absent ps k in grind (arith, nat_tests)

  -- how many pairs there are after a write
  pub length-write : (ps : List (ℕ × V)) → Rising ps → (k : ℕ) (o : Option V) →
      length (write ps k o) + weigh (λ _. 1) (at ps k) ≡ length ps + weigh (λ _. 1) o
  length-write ps f k o = omega (arith, length-sum (write ps k o), length-sum ps, sum-write (λ _. 1) 0 ps f k o)

  -- and where the key is there
  pub length_there : (ps : List (ℕ × V)) → Rising ps → (k : ℕ) (o : Option V) → is_some (at ps k) ≡ true →
      length (write ps k o) + 1 ≡ length ps + weigh (λ _. 1) o
  length_there ps f k o is = one (length (write ps k o)) (length ps + weigh (λ _. 1) o) (at ps k) is (length-write ps f k o)
    where
      one : (n m : ℕ) (w : Option V) → is_some w ≡ true → n + weigh (λ _. 1) w ≡ m → n + 1 ≡ m
      one n m None is e = absurd (both_ways false refl is)
      one n m (Some v) is e = e

  pub fit-write : (ps : List (ℕ × V)) (k : ℕ) (o : Option V) → Fit ps → k < 2 ^ 64 → Fit (write ps k o)
  fit-write [] k None f l = tt
  fit-write [] k (Some v) f l = (l, tt)
  fit-write (p ∷ ps) k o f l =
      elim (cases_order k p.0) [
        | inl e ↦ rw (le-ltb k p.0 (omega arith), eq-eqb k p.0 e) (fit_before k o ps f.1 l)
        | inr (inl h) ↦ rw (lt-ltb k p.0 h) (fit_before k o (p ∷ ps) f l)
        | inr (inr h) ↦ rw (le-ltb k p.0 (omega arith), ne_eqb k p.0 (λ e. omega arith)) (f.0, fit-write ps k o f.1 l)
      ]
    where
      fit_before : (k : ℕ) (o : Option V) (ps : List (ℕ × V)) → Fit ps → k < 2 ^ 64 → Fit (before k o ps)
      fit_before k None ps f l = f
      fit_before k (Some v) ps f l = (l, f)

module _ {V : Type 0} (h : Held V) where
  pub same_held : (j : Held V) → h.pairs ≡ j.pairs → h.places ≡ j.places → h ≡ j
  same_held j e f = λ n. record { pairs = e n; places = f n }

  module _ (k : ℕ) (v : V) where
    pub put_full : find h k ≡ None → length h.pairs ≡ h.places → (Err Full ≡ puts h k) × (h ≡ put h k v)
    put_full gone full = (grind (arith, nat_tests), grind (arith, nat_tests))

    pub put_free : find h k ≡ None → (length h.pairs ≡ h.places → ⊥) → (Ok tt ≡ puts h k) × (written h k (Some v) ≡ put h k v)
    put_free gone free = (grind (arith, nat_tests), grind (arith, nat_tests))

    pub change_free : has h k ≡ true → (Ok tt ≡ changes h k) × (written h k (Some v) ≡ change h k v)
    change_free is = (grind (arith, nat_tests), grind (arith, nat_tests))
