-- the stocks that are left decide
use Rattle.std.proofs.Common.{◌≡◌}
use Rattle.book.specs.Stocks.{elsewhere}
use Rattle.stock_steps.proofs.elsewhere.Given as goal

abbrev pub invariant-loop-other : goal.invariant-loop-other
invariant-loop-other g l =
    elsewhere l.other-iterator l.locate l.symbol ≡ elsewhere (g.S.Holds.held l.stocks).pairs l.locate l.symbol
