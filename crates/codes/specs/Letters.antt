-- The letters that fields may hold, and the number of each: its place in its list.
use Rattle.std.specs.Prelude.{ℕ, ◌+◌, cond, List, [], ◌∷◌, Some, None, codes, Option, ◌==◌}

-- The events, in the order of the day.
abbrev pub events : List ℕ
events = codes "OSQMEC"

-- The categories of a stock.
abbrev pub categories : List ℕ
categories = codes "ANPQVZ "

-- Whether a stock's entry is live or a test.
abbrev pub authenticities : List ℕ
authenticities = codes "PT"

-- Buy and sell.
abbrev pub sides : List ℕ
sides = codes "BS"

-- Halted and trading.
abbrev pub states : List ℕ
states = codes "HT"

-- The short sale restrictions.
abbrev pub restrictions : List ℕ
restrictions = codes "012"

-- A code's number: its place in a list, counted from i.
abbrev pub rank : ℕ → List ℕ → ℕ → Option ℕ
rank i [] c = None
rank i (d ∷ ds) c = cond (c == d) (Some i) (rank (i + 1) ds c)
