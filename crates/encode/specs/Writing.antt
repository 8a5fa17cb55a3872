-- What writing a message of a feed answers, and what it leaves in the buffer.
use Rattle.std.specs.Prelude.{ℕ, cond, List, [], ◌∷◌, ◌++◌, drop, Ok, Err, Result, nat_le}
use Rattle.wire.specs.declared.fault.BytesFault.TheVariants.{NotInFeed, ShortBuffer}
use Rattle.wire.specs.declared.fault.FieldsFault.{FieldsFault}
use Rattle.wire.specs.declared.fault.WireFault.{WireFault}
use Rattle.wire.specs.declared.fault.WireFault.TheVariants.{Bytes, Fields}
use Rattle.wire.specs.declared.message.Feed.{Feed}
use Rattle.wire.specs.Judging.{row_judged}
use Rattle.wire.specs.Layout.{bytes_of}
use Rattle.wire.specs.Table.{Row, Field, num, symbol, Value, figure, text, every_field}

-- Question 9, of fields that have passed: is the buffer, with this much room, long enough? Then the message's length.
abbrev pub if_room : Result (Unit {0}) FieldsFault → (size room : ℕ) → Result ℕ WireFault
if_room (Ok u) size room = cond (nat_le size room) (Ok size) (Err (Bytes (ShortBuffer room)))
if_room (Err f) size room = Err (Fields f)

-- Question 2, is the message's row in the feed; then its fields, 4 to 8; then 9. The answer is how many bytes are written.
abbrev pub writing : Feed → Row × List Value → (room : ℕ) → Result ℕ WireFault
writing f m room = cond (m.0.on f) (if_room (row_judged m.0 m.1) m.0.size room) (Err (Bytes NotInFeed))

-- The buffer afterwards: the message's bytes first, and the others as they were; a refusal leaves it whole.
abbrev pub buffer : Result ℕ WireFault → Row × List Value → List ℕ → List ℕ
buffer (Ok n) m old = bytes_of m ++ drop n old
buffer (Err f) m old = old

-- The same values, each symbol at the offset of its field.
abbrev pub at_home : List Field → List Value → List Value
at_home [] vs = vs
at_home (f ∷ fs) [] = []
at_home (num at width t ∷ fs) (v ∷ vs) = v ∷ at_home fs vs
at_home (symbol at ∷ fs) (figure n ∷ vs) = figure n ∷ at_home fs vs
at_home (symbol at ∷ fs) (text place s ∷ vs) = text at s ∷ at_home fs vs

-- A message's row and fields, each symbol where it stands in the bytes that are written.
abbrev pub as_written : Row × List Value → Row × List Value
as_written m = (m.0, at_home (every_field m.0) m.1)
