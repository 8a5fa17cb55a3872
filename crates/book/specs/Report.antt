-- The report: a line for each stock, in rising locate.
use Rattle.std.specs.Prelude.{ℕ, List, [], ◌∷◌}
use Rattle.text.specs.declared.line.Line.{Line}
use Rattle.text.specs.Line.{lines}
use Rattle.book.specs.declared.value.Stock.{Stock}
use Rattle.book.specs.Book.{Book}

-- what the report tells of a stock
abbrev pub line_of : ℕ → Stock → Line
line_of locate s =
    record { locate = locate; symbol = s.listing.symbol; open_shares = s.sums.open_shares; live_volume = s.sums.live_volume }

-- of each of them
abbrev pub lines_of : List (ℕ × Stock) → List Line
lines_of [] = []
lines_of (p ∷ ps) = line_of p.0 p.1 ∷ lines_of ps

-- the whole text
abbrev pub report : Book → List ℕ
report b = lines (lines_of b.stocks.pairs)
