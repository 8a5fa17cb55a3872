-- Every row of the table: its fields follow one another from offset 1 to its length, with no gap.
use Rattle.std.proofs.Common.{◌≡◌, ℕ, ◌+◌, Bool, true, false, cond, ◌&&◌, eqb, List, [], ◌∷◌, Some, refl, subst, arith}
use Rattle.std.proofs.lemmas.Bool.{and_parts, eqb-true}
use Rattle.wire.specs.declared.message.Feed.{Feed}
use Rattle.wire.specs.Table.{Row, Field, num, symbol, table, every_field}
use Rattle.decode.specs.Decoding.{find}

-- a field's offset and width
abbrev pub offset : Field → ℕ
offset (num k w t) = k
offset (symbol k) = k

abbrev pub width : Field → ℕ
width (num k w t) = w
width (symbol k) = 8

-- do the fields follow one another from `at` to `end`?
abbrev pub gapless : ℕ → List Field → ℕ → Bool
gapless at [] end = eqb at end
gapless at (f ∷ fs) end = eqb (offset f) at && gapless (at + width f) fs end

abbrev pub whole : Row → Bool
whole r = gapless 1 (every_field r) r.size

abbrev all_whole : List Row → Bool
all_whole [] = true
all_whole (r ∷ rs) = whole r && all_whole rs

-- what is found stands in the table, under its letter and in the feed
found : (rs : List Row) (f : Feed) (k : ℕ) (r : Row) → all_whole rs ≡ true → find rs f k ≡ Some r → (whole r ≡ true) × (k ≡ r.letter)
found [] f k r a e = let z : ◌≡◌ {A = ℕ} 0 1 = cc in absurd (omega arith)
found (q ∷ rs) f k r a e = go (eqb k q.letter && q.on f) refl e (found rs f k r (and_parts (whole q) (all_whole rs) a).1)
  where
    go : (b : Bool) → (eqb k q.letter && q.on f) ≡ b → cond b (Some q) (find rs f k) ≡ Some r →
        (find rs f k ≡ Some r → (whole r ≡ true) × (k ≡ r.letter)) → (whole r ≡ true) × (k ≡ r.letter)
    go true t e rec =
        let same : q ≡ r = cc in
        subst (λ (x : Row). (whole x ≡ true) × (k ≡ x.letter)) same
        ((and_parts (whole q) (all_whole rs) a).0, eqb-true k q.letter (and_parts (eqb k q.letter) (q.on f) t).0)
    go false t e rec = rec e

pub in_table : (f : Feed) (k : ℕ) (r : Row) → find table f k ≡ Some r → (whole r ≡ true) × (k ≡ r.letter)
in_table f k r e = found table f k r refl e
