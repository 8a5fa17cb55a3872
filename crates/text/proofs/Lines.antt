-- A symbol's bytes before its filling.
use Rattle.std.proofs.Common.{◌≡◌, ℕ, ◌≤◌, List, [], ◌∷◌, length, take, ◌==◌, refl, arith}
use Rattle.std.specs.List.{position}
use Rattle.std.specs.Option.{unwrap_or}
use Rattle.std.proofs.lemmas.Bool.Decides.{nat_tests}
use Rattle.text.specs.Line.{unfilled}

pub unfilled_le : (s : List ℕ) → length (unfilled s) ≤ length s
unfilled_le [] = omega arith
unfilled_le (c ∷ cs) = let ih = unfilled_le cs in grind (arith, nat_tests)

pub take-unfilled : (s : List ℕ) → take (length (unfilled s)) s ≡ unfilled s
take-unfilled [] = refl
take-unfilled (c ∷ cs) = let ih = take-unfilled cs in grind (arith, nat_tests)

pub length-unfilled : (s : List ℕ) → unwrap_or (position (λ b. b == 32) s) (length s) ≡ length (unfilled s)
length-unfilled [] = refl
length-unfilled (c ∷ cs) = let ih = length-unfilled cs in grind (arith, nat_tests)
