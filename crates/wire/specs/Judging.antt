-- The questions that a message's fields must pass: 4 on the locate, 5 on a symbol, 6 on a code, 7 on bounds, 8 on price times shares.
use Rattle.std.specs.Prelude.{ℕ, ◌*◌, Bool, true, false, cond, ◌&&◌, List, [], ◌∷◌, is_some, Some, None, Ok, Err, Option, Result, ◌==◌, nat_le}
pub use Rattle.codes.specs.Letters.{rank}
use Rattle.wire.specs.declared.fault.FieldsFault.{FieldsFault}
use Rattle.wire.specs.declared.fault.FieldsFault.TheVariants.{WrongLocate, BadSymbol, UnlistedCode, OutOfBounds, OverLimit}
use Rattle.wire.specs.Symbols.{well_formed}
use Rattle.wire.specs.Table.{Test, nought, some, free, one_of, within, Field, num, symbol, Value, figure, text, Row, every_field}

-- Is the number what the test wants?
abbrev pub meets : Test → ℕ → Bool
meets nought n = n == 0
meets some n = nat_le 1 n
meets free n = true
meets (one_of cs) n = is_some (rank 0 cs n)
meets (within low high) n = nat_le low n && nat_le n high

-- Why a number is refused that is not what the test of the field at this offset wants: 4, 6 or 7. Any number is what `free` wants.
abbrev pub refusal : Test → ℕ → FieldsFault
refusal nought at = WrongLocate
refusal some at = WrongLocate
refusal free at = OutOfBounds at
refusal (one_of cs) at = UnlistedCode at
refusal (within low high) at = OutOfBounds at

-- A question's answer: nothing, or the fault where it is no.
abbrev pub verdict : Bool → FieldsFault → Result (Unit {0}) FieldsFault
verdict true f = Ok tt
verdict false f = Err f

-- The answer on a field and what it holds; question 5 where that is a symbol.
abbrev pub judged : Field → Value → Result (Unit {0}) FieldsFault
judged (num at width t) (figure n) = verdict (meets t n) (refusal t at)
judged (symbol at) (text place s) = verdict (well_formed s) (BadSymbol at)
judged (num at width t) (text place s) = Ok tt
judged (symbol at) (figure n) = Ok tt

-- The first refusal of two answers, or what the second one has.
abbrev pub after : {X F : Type 0} → Result (Unit {0}) F → Result X F → Result X F
after (Ok u) r = r
after (Err f) r = Err f

-- The answer on fields and what they hold, one after another.
abbrev pub fields_judged : List Field → List Value → Result (Unit {0}) FieldsFault
fields_judged [] vs = Ok tt
fields_judged (f ∷ fs) [] = Ok tt
fields_judged (f ∷ fs) (v ∷ vs) = after (judged f v) (fields_judged fs vs)

-- The number in the field at an offset.
abbrev pub figure_at : ℕ → List Field → List Value → ℕ
figure_at at [] vs = 0
figure_at at (f ∷ fs) [] = 0
figure_at at (symbol k ∷ fs) (v ∷ vs) = figure_at at fs vs
figure_at at (num k width t ∷ fs) (text place s ∷ vs) = figure_at at fs vs
figure_at at (num k width t ∷ fs) (figure n ∷ vs) = cond (k == at) n (figure_at at fs vs)

-- Question 8: price times shares, where it is limited, is at most 100,000,000,000,000.
abbrev pub limit_judged : Option (ℕ × ℕ) → List Field → List Value → Result (Unit {0}) FieldsFault
limit_judged None fs vs = Ok tt
limit_judged (Some l) fs vs =
    verdict (nat_le (figure_at l.0 fs vs * figure_at l.1 fs vs) 100000000000000) (OverLimit l.0)

-- The answer on a message of this row with these values: its fields in rising offset, then the limit.
abbrev pub row_judged : Row → List Value → Result (Unit {0}) FieldsFault
row_judged r vs = after (fields_judged (every_field r) vs) (limit_judged r.limit (every_field r) vs)
