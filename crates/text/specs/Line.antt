-- The report: a line for each stock.
use Rattle.std.specs.Prelude.{ℕ, ◌+◌, cond, List, [], ◌∷◌, ◌++◌, length, codes, decimal, ◌==◌}
use Rattle.text.specs.declared.line.Line.{Line}

-- a symbol without its filling: the bytes before the first space
abbrev pub unfilled : List ℕ → List ℕ
unfilled [] = []
unfilled (c ∷ cs) = cond (c == 32) [] (c ∷ unfilled cs)

-- locate, symbol, open shares and live volume, a space between, and the end of the line
abbrev pub line : Line → List ℕ
line l =
    decimal l.locate ++ (codes " " ++ (unfilled l.symbol ++ (codes " " ++ (decimal l.open_shares ++ (codes " " ++ (decimal l.live_volume ++ codes "\n"))))))

-- one line after another
abbrev pub lines : List Line → List ℕ
lines [] = []
lines (l ∷ ls) = line l ++ lines ls

-- how long a line is
abbrev pub size : Line → ℕ
size l = 4 + length (decimal l.locate) + length (unfilled l.symbol) + length (decimal l.open_shares) + length (decimal l.live_volume)
