-- The bounds that a decoded message keeps to.
use Rattle.std.proofs.Common.{◌≡◌, ℕ, ◌*◌, ◌≤◌, min, Bool, true, false, cond, ◌&&◌, eqb, leb, List, [], ◌∷◌, length, Some, None, Ok, Err, Option, Result, refl, ap, subst, arith}
use Rattle.std.specs.Int.Digits.{number_from_digits}
use Rattle.std.proofs.lemmas.Bool.{leb-true, and_parts}
use Rattle.store.specs.Held.{or_else}
use Rattle.wire.specs.declared.fault.BytesFault.TheVariants.{WrongLength}
use Rattle.wire.specs.declared.fault.FieldsFault.{FieldsFault}
use Rattle.wire.specs.declared.fault.FieldsFault.TheVariants.{OutOfBounds, OverLimit}
use Rattle.wire.specs.declared.fault.WireFault.TheVariants.{Bytes}
use Rattle.wire.specs.declared.message.Feed.{Feed}
use Rattle.wire.specs.declared.message.Feed.TheVariants.{Depth}
use Rattle.wire.specs.Judging.{verdict, judged, after, fields_judged, limit_judged, row_judged}
use Rattle.wire.specs.Table.{Field, Value, figure, Row, shares, row_A, row_E, row_X, row_U, row_C, table, every_field}
use Rattle.decode.specs.Decoding.{part, values, find, if_passed, checked, by_row, decoding}
use Rattle.book.specs.Message.{heard, Msg, says, events, lists, acts, restricts, adds, executes, cancels, deletes, replaces, corrects, breaks, foreign}

-- shares, and price times shares
abbrev pub Within : ℕ → ℕ → Type 0
Within s p = (s ≤ 1000000) × (p * s ≤ 100000000000000)

abbrev pub Fits : Msg → Type 0
Fits (says l stamp (events e)) = Unit {0}
Fits (says l stamp (lists v)) = Unit {0}
Fits (says l stamp (acts y v)) = Unit {0}
Fits (says l stamp (restricts y v)) = Unit {0}
Fits (says l stamp (adds r by s p y)) = Within s p
Fits (says l stamp (executes r s k)) = s ≤ 1000000
Fits (says l stamp (cancels r s)) = s ≤ 1000000
Fits (says l stamp (deletes r)) = Unit {0}
Fits (says l stamp (replaces r n s p)) = Within s p
Fits (says l stamp (corrects k n s p)) = Within s p
Fits (says l stamp (breaks k)) = Unit {0}
Fits (says l stamp foreign) = Unit {0}

-- both answers are yes
both : {F : Type 0} (a c : Result (Unit {0}) F) → after a c ≡ Ok tt → (a ≡ Ok tt) × (c ≡ Ok tt)
both (Ok u) c e = (refl, e)
both (Err f) c e = absurd (let z : ◌≡◌ {A = ℕ} 0 1 = cc in omega arith)

yes : (b : Bool) (f : FieldsFault) → verdict b f ≡ Ok tt → b ≡ true
yes true f e = refl
yes false f e = absurd (let z : ◌≡◌ {A = ℕ} 0 1 = cc in omega arith)

-- each field's answer is yes
abbrev AllJudged : List Field → List Value → Type 0
AllJudged [] vs = Unit {0}
AllJudged (f ∷ fs) [] = Unit {0}
AllJudged (f ∷ fs) (v ∷ vs) = (judged f v ≡ Ok tt) × AllJudged fs vs

all_judged : (fs : List Field) (vs : List Value) → fields_judged fs vs ≡ Ok tt → AllJudged fs vs
all_judged [] vs e = tt
all_judged (f ∷ fs) [] e = tt
all_judged (f ∷ fs) (v ∷ vs) e = let h = both (judged f v) (fields_judged fs vs) e in (h.0, all_judged fs vs h.1)

few_shares : (place n : ℕ) → judged (shares place) (figure n) ≡ Ok tt → n ≤ 1000000
few_shares place n e = leb-true n 1000000 (and_parts (leb 1 n) (leb n 1000000) (yes (leb 1 n && leb n 1000000) (OutOfBounds place) e)).1

within_limit : (at p s : ℕ) → verdict (leb (p * s) 100000000000000) (OverLimit at) ≡ Ok tt → p * s ≤ 100000000000000
within_limit at p s e = leb-true (p * s) 100000000000000 (yes (leb (p * s) 100000000000000) (OverLimit at) e)

-- what a row's fields hold fits, once they have passed
abbrev RowFits : Row → Type 0
RowFits r = (bytes : List ℕ) → row_judged r (values bytes (every_field r)) ≡ Ok tt → Fits (heard (r, values bytes (every_field r)))

module _ (r : Row) (bytes : List ℕ) (e : row_judged r (values bytes (every_field r)) ≡ Ok tt) where
  passed : AllJudged (every_field r) (values bytes (every_field r))
  passed = all_judged (every_field r) (values bytes (every_field r)) (both (fields_judged (every_field r) (values bytes (every_field r))) (limit_judged r.limit (every_field r) (values bytes (every_field r))) e).0

  limited_too : limit_judged r.limit (every_field r) (values bytes (every_field r)) ≡ Ok tt
  limited_too = (both (fields_judged (every_field r) (values bytes (every_field r))) (limit_judged r.limit (every_field r) (values bytes (every_field r))) e).1

-- the number in a field of a message
abbrev in_field : ℕ → ℕ → List ℕ → ℕ
in_field at width bytes = number_from_digits 256 (part at width bytes)

add_fits : RowFits row_A
add_fits bytes e =
    (few_shares 20 (in_field 20 4 bytes) (passed row_A bytes e).1.1.1.1.0, within_limit 32 (in_field 32 8 bytes) (in_field 20 4 bytes) (limited_too row_A bytes e))

execute_fits : RowFits row_E
execute_fits bytes e = few_shares 19 (in_field 19 4 bytes) (passed row_E bytes e).1.1.1.0

cancel_fits : RowFits row_X
cancel_fits bytes e = few_shares 19 (in_field 19 4 bytes) (passed row_X bytes e).1.1.1.0

replace_fits : RowFits row_U
replace_fits bytes e =
    (few_shares 27 (in_field 27 4 bytes) (passed row_U bytes e).1.1.1.1.0, within_limit 31 (in_field 31 8 bytes) (in_field 27 4 bytes) (limited_too row_U bytes e))

correct_fits : RowFits row_C
correct_fits bytes e =
    (few_shares 27 (in_field 27 4 bytes) (passed row_C bytes e).1.1.1.1.0, within_limit 31 (in_field 31 8 bytes) (in_field 27 4 bytes) (limited_too row_C bytes e))

abbrev AllFit : List Row → Type 0
AllFit [] = Unit {0}
AllFit (r ∷ rs) = RowFits r × AllFit rs

-- the other rows have no shares that the book counts, or are of another feed
table_fits : AllFit table
table_fits =
    ((λ bytes e. tt), ((λ bytes e. tt), ((λ bytes e. tt), ((λ bytes e. tt), (add_fits, (execute_fits, (cancel_fits, ((λ bytes e. tt), (replace_fits, (correct_fits, ((λ bytes e. tt), ((λ bytes e. tt), ((λ bytes e. tt), ((λ bytes e. tt), tt))))))))))))))

-- a row that was found is one of them
found_fits : (rs : List Row) → AllFit rs → (f : Feed) (k : ℕ) (r : Row) → find rs f k ≡ Some r → RowFits r
found_fits [] a f k r e = absurd (let z : ◌≡◌ {A = ℕ} 0 1 = cc in omega arith)
found_fits (q ∷ rs) a f k r e =
    (elim (eqb k q.letter && q.on f) as (λ t. cond t (Some q) (find rs f k) ≡ Some r → RowFits r) [
      | true ↦ λ i. subst RowFits (ap (or_else q) i) a.0
      | false ↦ found_fits rs a.1 f k r
    ]) e

-- what passed is the message itself
checked_fits : (r : Row) (vs : List Value) (m : Row × List Value) (x : Result (Unit {0}) FieldsFault) → if_passed x (r, vs) ≡ Ok m → (x ≡ Ok tt) × ((r, vs) ≡ m)
checked_fits r vs m (Ok u) e = (refl, cc)
checked_fits r vs m (Err f) e = absurd (let z : ◌≡◌ {A = ℕ} 0 1 = cc in omega arith)

by_row_fits : (o : Option Row) → ((r : Row) → o ≡ Some r → RowFits r) → (bytes : List ℕ) (m : Row × List Value) → by_row o bytes ≡ Ok m → Fits (heard m)
by_row_fits None all bytes m e = absurd (let z : ◌≡◌ {A = ℕ} 0 1 = cc in omega arith)
by_row_fits (Some r) all bytes m e =
    (elim (eqb (length bytes) r.size) as (λ t. cond t (checked r (values bytes (every_field r))) (Err (Bytes (WrongLength (min (length bytes) r.size)))) ≡ Ok m → Fits (heard m)) [
      | true ↦ λ i.
          let c = checked_fits r (values bytes (every_field r)) m (row_judged r (values bytes (every_field r))) i in
          subst (λ y. Fits (heard y)) c.1 (all r refl bytes c.0)
      | false ↦ λ i. absurd (let z : ◌≡◌ {A = ℕ} 0 1 = cc in omega arith)
    ]) e

-- what decodes keeps to the bounds
pub fits : (bytes : List ℕ) (m : Row × List Value) → decoding Depth bytes ≡ Ok m → Fits (heard m)
fits [] m e = absurd (let z : ◌≡◌ {A = ℕ} 0 1 = cc in omega arith)
fits (k ∷ bs) m e = by_row_fits (find table Depth k) (found_fits table table_fits Depth k) (k ∷ bs) m e
