-- What bytes of a feed are decoded to: a row and the values of its fields, or why they are refused.
use Rattle.std.specs.Prelude.{ℕ, ◌<◌, min, cond, List, [], ◌∷◌, map, length, take, drop, Some, None, Ok, Err, Option, Result, ◌==◌, slice_index}
use Rattle.std.specs.Int.Digits.{number_from_digits}
use Rattle.wire.specs.declared.fault.BytesFault.TheVariants.{Empty, NotInFeed, WrongLength}
use Rattle.wire.specs.declared.fault.FieldsFault.{FieldsFault}
use Rattle.wire.specs.declared.fault.WireFault.{WireFault}
use Rattle.wire.specs.declared.fault.WireFault.TheVariants.{Bytes, Fields}
use Rattle.wire.specs.declared.message.Feed.{Feed}
use Rattle.wire.specs.declared.message.Message.{Message}
use Rattle.wire.specs.Table.{Row, Field, num, symbol, Value, figure, text, table, every_field}
pub use Rattle.wire.specs.Table.{find}
use Rattle.wire.specs.Judging.{row_judged}
use Rattle.wire.specs.Told.{told}

-- Bytes: numbers below 256.
abbrev pub ByteString : List ℕ → Type 0
ByteString bs = (i : ℕ) → slice_index bs i < 256

-- So many bytes from an offset on.
abbrev pub part : ℕ → ℕ → List ℕ → List ℕ
part at width bs = take width (drop at bs)

-- What a field of a message holds; a number has its most significant byte first.
abbrev pub value : List ℕ → Field → Value
value bs (num at width t) = figure (number_from_digits 256 (part at width bs))
value bs (symbol at) = text at (part at 8 bs)

-- What each of these fields of a message holds.
abbrev pub values : List ℕ → List Field → List Value
values bs fs = map (value bs) fs

-- A message whose fields were judged: it, or the refusal.
abbrev pub if_passed : Result (Unit {0}) FieldsFault → Row × List Value → Result (Row × List Value) WireFault
if_passed (Ok u) m = Ok m
if_passed (Err f) m = Err (Fields f)

-- A message of this row and these values, once its fields have passed.
abbrev pub checked : Row → List Value → Result (Row × List Value) WireFault
checked r vs = if_passed (row_judged r vs) (r, vs)

-- Question 2, was a row found, and question 3, have the bytes its length; then the fields.
abbrev pub by_row : Option Row → List ℕ → Result (Row × List Value) WireFault
by_row None bs = Err (Bytes NotInFeed)
by_row (Some r) bs =
    cond (length bs == r.size)
    (checked r (values bs (every_field r)))
    (Err (Bytes (WrongLength (min (length bs) r.size))))

-- Question 1, is there a byte, and then the others: the first byte is the letter.
abbrev pub decoding : Feed → List ℕ → Result (Row × List Value) WireFault
decoding f [] = Err (Bytes Empty)
decoding f (k ∷ bs) = by_row (find table f k) (k ∷ bs)

-- What the decoder's answer tells.
abbrev pub told_in : Result Message WireFault → Result (Row × List Value) WireFault
told_in (Ok m) = Ok (told m)
told_in (Err f) = Err f
