-- What runs of calls of `next` give, for an iterator that is seen as the list of what is left.
use Rattle.std.proofs.Common.{◌≡◌, ℕ, zero, suc, ◌<◌, Bool, ◌||◌, true, false, List, [], ◌∷◌, ap, length, sym, refl, arith}
use Rattle.std.specs.Bool.{MatchBool}
use Rattle.std.specs.List.{HoldsAt, AllWithin, list_any}
use Rattle.std.proofs.lemmas.List.Folds.{list_any_none}
use Rattle.std.proofs.lemmas.List.Elements.{All-from_all_within}
use Rattle.std.specs.Iterator.{YieldsFirst}
use Rattle.std.specs.Iterator.Runs.{YieldsInOrder}
use Rattle.std.proofs.iter.runs.Sources.{from_front, as_is}

pub rest_runs : {A : Type 0} → YieldsInOrder (YieldsFirst {A = A} (λ rest. rest)) (λ rest. rest)
rest_runs {A} p seen = as_is p p.from (from_front (YieldsFirst {A = A} (λ rest. rest)) (λ x. x) (λ rest. rest) (λ s t h. ap length h.0) (λ s x t h. h) p seen)

-- what `any` answers, by the test at some element and at each
module _ {A : Type 0} (p : A → Bool) where
  or_true : (b : Bool) → (b || true) ≡ true
  or_true true = refl
  or_true false = refl

  some_passes : (xs : List A) (k : ℕ) → k < length xs → HoldsAt (λ x. p x ≡ true) xs k → list_any p xs ≡ true
  some_passes [] k l h = absurd (omega arith)
  some_passes (x ∷ xs) zero l h = rw (h x)
  some_passes (x ∷ xs) (suc k) l h = rw (some_passes xs k (omega arith) h) (or_true (p x))

  pub any_tells : (xs : List A) (r : Bool) →
      MatchBool r ((k : ℕ) × (k < length xs) × HoldsAt (λ x. p x ≡ true) xs k) (AllWithin (λ x. p x ≡ false) xs 0 (length xs)) → r ≡ list_any p xs
  any_tells xs true h = sym (some_passes xs h.0 h.1 h.2)
  any_tells xs false h = sym (list_any_none p xs (All-from_all_within (λ x. p x ≡ false) xs h))
