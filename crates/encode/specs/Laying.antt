-- Bytes laid into a buffer, field by field at their offsets.
use Rattle.std.specs.Prelude.{◌≡◌, ℕ, ◌+◌, ◌^◌, ◌<◌, List, [], ◌∷◌, ◌++◌, length, take, drop}
use Rattle.wire.specs.Layout.{field_bytes}
use Rattle.wire.specs.Table.{nought, some, free, one_of, within, Field, num, symbol, Value, figure, text, Row, every_field}

-- A buffer with these bytes in the place of as many from an offset on.
unfoldable pub laid : (at : ℕ) → (bytes buffer : List ℕ) → List ℕ
laid at bytes buffer = take at buffer ++ (bytes ++ drop (at + length bytes) buffer)

-- A buffer with each field's bytes at its offset.
abbrev pub placed : List Field → List Value → List ℕ → List ℕ
placed [] vs buffer = buffer
placed (f ∷ fs) [] buffer = buffer
placed (num at width t ∷ fs) (v ∷ vs) buffer = placed fs vs (laid at (field_bytes (num at width t) v) buffer)
placed (symbol at ∷ fs) (v ∷ vs) buffer = placed fs vs (laid at (field_bytes (symbol at) v) buffer)

-- What is known of a field once it has passed: a code is one byte, a symbol eight.
abbrev pub Narrow : Field → Value → Type 0
Narrow (num at width (one_of cs)) (figure n) = n < 256
Narrow (symbol at) (text place s) = length s ≡ 8
Narrow (num at width nought) (figure n) = Unit {0}
Narrow (num at width some) (figure n) = Unit {0}
Narrow (num at width free) (figure n) = Unit {0}
Narrow (num at width (within low high)) (figure n) = Unit {0}
Narrow (num at width t) (text place s) = Unit {0}
Narrow (symbol at) (figure n) = Unit {0}

-- The same of each field.
abbrev pub AllNarrow : List Field → List Value → Type 0
AllNarrow [] vs = Unit {0}
AllNarrow (f ∷ fs) [] = Unit {0}
AllNarrow (f ∷ fs) (v ∷ vs) = Narrow f v × AllNarrow fs vs

-- The numbers fit the widths of their fields.
abbrev pub Widths : List Field → List Value → Type 0
Widths [] vs = Unit {0}
Widths (f ∷ fs) [] = Unit {0}
Widths (num at width t ∷ fs) (figure n ∷ vs) = (n < 256 ^ width) × Widths fs vs
Widths (num at width t ∷ fs) (text place s ∷ vs) = Widths fs vs
Widths (symbol at ∷ fs) (v ∷ vs) = Widths fs vs

-- A buffer into which a message was put: its letter, and each field at its offset; its numbers fit.
pub record Put (m : Row × List Value) (old after : List ℕ) : Type 0 where
  pub bytes : after ≡ placed (every_field m.0) m.1 (laid 0 (m.0.letter ∷ []) old)
  pub widths : Widths (every_field m.0) m.1
