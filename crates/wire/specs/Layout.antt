-- The bytes of a message: its letter, and then each field at its offset.
use Rattle.std.specs.Prelude.{ℕ, zero, suc, ◌/◌, ◌%◌, List, [], ◌∷◌, ◌++◌}
use Rattle.wire.specs.Table.{Row, Field, num, symbol, Value, figure, text, every_field}

-- A number in so many bytes, the most significant first.
abbrev pub digits : ℕ → ℕ → List ℕ
digits zero n = []
digits (suc w) n = digits w (n / 256) ++ (n % 256 ∷ [])

-- What a field holds, as bytes.
abbrev pub field_bytes : Field → Value → List ℕ
field_bytes (num at width t) (figure n) = digits width n
field_bytes (symbol at) (text place s) = s
field_bytes (num at width t) (text place s) = []
field_bytes (symbol at) (figure n) = []

-- What fields hold, one after another.
abbrev pub fields_bytes : List Field → List Value → List ℕ
fields_bytes [] vs = []
fields_bytes (f ∷ fs) [] = []
fields_bytes (f ∷ fs) (v ∷ vs) = field_bytes f v ++ fields_bytes fs vs

-- The bytes of a message of this row with these values.
abbrev pub bytes_of : Row × List Value → List ℕ
bytes_of m = m.0.letter ∷ fields_bytes (every_field m.0) m.1
