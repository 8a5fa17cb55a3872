-- The test of a list of pairs says that its keys rise and have 64 bits, and a write keeps it.
use Rattle.std.specs.Prelude.{◌≡◌, ℕ, suc, ◌^◌, ◌<◌, ◌≤◌, true, List, [], ◌∷◌, Option, refl}
use Rattle.std.proofs.Common.{arith}
use Rattle.std.proofs.lemmas.Bool.{and_parts, and_from}
use Rattle.std.proofs.lemmas.Bool.Decides.{nat_tests}
use Rattle.store.specs.Held.{write, From, Fit}
use Rattle.store.proofs.Maps.{from-write}
use Rattle.store.proofs.Writes.{fit-write}
use Rattle.own_store.specs.Pairs.{sorted}

module _ {V : Type 0} where
  parts : (n : ℕ) (p : ℕ × V) (ps : List (ℕ × V)) → sorted n (p ∷ ps) ≡ true → (n ≤ p.0) × (p.0 < 2 ^ 64) × (sorted (suc p.0) ps ≡ true)
  parts n p ps up = grind (arith, nat_tests, and_parts)

  pub rising : (n : ℕ) (ps : List (ℕ × V)) → sorted n ps ≡ true → From n ps
  rising n [] up = tt
  rising n (p ∷ ps) up = let is = parts n p ps up in (is.0, rising (suc p.0) ps is.2)

  pub fit : (n : ℕ) (ps : List (ℕ × V)) → sorted n ps ≡ true → Fit ps
  fit n [] up = tt
  fit n (p ∷ ps) up = let is = parts n p ps up in (is.1, fit (suc p.0) ps is.2)

  back : (n : ℕ) (ps : List (ℕ × V)) → From n ps → Fit ps → sorted n ps ≡ true
  back n [] f g = refl
  back n (p ∷ ps) f g =
      let low = f.0 in let high = g.0 in
      let more = back (suc p.0) ps f.1 g.1 in
      grind (arith, nat_tests, and_from)

  pub sorted_write : (ps qs : List (ℕ × V)) (k : ℕ) (o : Option V) → sorted 0 ps ≡ true → k < 2 ^ 64 → qs ≡ write ps k o → sorted 0 qs ≡ true
  sorted_write ps qs k o up l e = rw e (back 0 (write ps k o) (from-write 0 ps (rising 0 ps up) k o (omega arith)) (fit-write ps k o (fit 0 ps up) l))
