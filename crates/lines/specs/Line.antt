-- A message's line: the number of its pair, and then its type and fields, or why it is refused.
use Rattle.std.specs.Prelude.{ℕ, cond, List, [], ◌∷◌, ◌++◌, take, drop, Ok, Err, codes, decimal, Result, ◌==◌}
use Prim.Native.String.{String}
use Rattle.text.specs.Line.{unfilled}
use Rattle.wire.specs.declared.fault.WireFault.{WireFault}
use Rattle.wire.specs.Fault.{told}
use Rattle.wire.specs.Symbols.{printable}
use Rattle.wire.specs.Table.{nought, some, free, one_of, within, Field, num, symbol, Value, figure, text, Row, every_field}
use Rattle.lines.specs.Names.{all_named, names_in, names}

-- A code: its letter, a space in quotes; what no code can be is a question mark.
abbrev pub code_text : ℕ → List ℕ
code_text c = cond (printable c) (c ∷ []) (cond (c == 0x20) (codes "' '") (codes "?"))

-- A symbol: its bytes before the filling, of eight.
abbrev pub symbol_text : List ℕ → List ℕ
symbol_text s = unfilled (take 8 s)

-- What a field holds: a number in shortest decimal, a code or a symbol.
abbrev pub value_text : Field → Value → List ℕ
value_text (num at width nought) (figure n) = decimal n
value_text (num at width some) (figure n) = decimal n
value_text (num at width free) (figure n) = decimal n
value_text (num at width (one_of cs)) (figure n) = code_text n
value_text (num at width (within low high)) (figure n) = decimal n
value_text (num at width t) (text place s) = symbol_text s
value_text (symbol at) (text place s) = symbol_text s
value_text (symbol at) (figure n) = decimal n

-- A space, the name, an equals sign and what the field holds.
abbrev pub field_text : String → List ℕ → List ℕ
field_text name value = codes " " ++ (codes name ++ (codes "=" ++ value))

-- Each field so, by its name and what it holds.
abbrev pub fields_text : List String → List Field → List Value → List (List ℕ)
fields_text [] fs vs = []
fields_text (n ∷ ns) [] vs = []
fields_text (n ∷ ns) (f ∷ fs) [] = []
fields_text (n ∷ ns) (f ∷ fs) (v ∷ vs) = field_text n (value_text f v) ∷ fields_text ns fs vs

-- A message: a space, its letter, and every field.
abbrev pub message_text : Row × List Value → List (List ℕ)
message_text m = (codes " " ++ (m.0.letter ∷ [])) ∷ fields_text (names m.0) (every_field m.0) m.1

-- Its fields after the time stamp.
abbrev pub rest_text : Row × List Value → List (List ℕ)
rest_text m = fields_text (names_in all_named m.0) m.0.fields (drop 2 m.1)

-- A refusal: its number and its place.
abbrev pub refusal_text : WireFault → List (List ℕ)
refusal_text f = (codes " fault " ++ decimal (told f).0) ∷ (codes " place " ++ decimal (told f).2) ∷ []

-- What was decoded, piece by piece.
abbrev pub decoded_text : Result (Row × List Value) WireFault → List (List ℕ)
decoded_text (Ok m) = message_text m
decoded_text (Err f) = refusal_text f

-- Pieces one after another.
abbrev pub joined : List (List ℕ) → List ℕ
joined [] = []
joined (t ∷ ts) = t ++ joined ts

-- The line: the pair's number, what was decoded, and the end of the line.
abbrev pub line : ℕ → Result (Row × List Value) WireFault → List ℕ
line pair d = decimal pair ++ (joined (decoded_text d) ++ codes "\n")

-- "N messages, M refused, K rewritten differ", and the end of the line.
abbrev pub summary : ℕ → ℕ → ℕ → List ℕ
summary n m k = decimal n ++ (codes " messages, " ++ (decimal m ++ (codes " refused, " ++ (decimal k ++ codes " rewritten differ\n"))))
