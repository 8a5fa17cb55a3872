-- the quote so far with that of the orders that are left is the whole, and there is room for all that are left
use Rattle.std.proofs.Common.{◌≡◌, length}
use Rattle.quotes.specs.Levels.{levels, Room}
use Rattle.quotes.proofs.Joins.{both}
use Rattle.quotes.proofs.best_levels.Given as goal

abbrev pub invariant-loop-order : goal.invariant-loop-order
invariant-loop-order g l =
    (both l.quote (levels l.order-iterator l.locate) ≡ levels (g.O.Holds.held l.orders).pairs l.locate)
    × Room l.quote (length l.order-iterator)
