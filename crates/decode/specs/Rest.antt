-- The fields of a message, in the bytes that are left after its first eleven.
use Rattle.std.specs.Prelude.{ℕ, ◌-◌, List, map}
use Rattle.std.specs.Int.Digits.{number_from_digits}
use Rattle.wire.specs.Table.{Field, num, symbol, Value, figure, text}
use Rattle.decode.specs.Decoding.{part}

-- What a field holds, whose offset is counted from the message's start.
abbrev pub rest_value : List ℕ → Field → Value
rest_value rest (num at width t) = figure (number_from_digits 256 (part (at - 11) width rest))
rest_value rest (symbol at) = text at (part (at - 11) 8 rest)

-- What each of these fields holds.
abbrev pub rest_values : List ℕ → List Field → List Value
rest_values rest fs = map (rest_value rest) fs
