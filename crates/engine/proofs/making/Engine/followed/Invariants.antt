use Rattle.std.proofs.Common.{◌≡◌, ◌-◌, ◌≤◌}
use Rattle.book.specs.Trace.{walk}
use Rattle.engine.proofs.making.Engine.followed.Given as goal

-- what is left of the walk gives what the whole does
abbrev pub invariant-loop-steps : goal.invariant-loop-steps
invariant-loop-steps g l =
    (l.steps ≤ l.count) ×
    (walk (g.M.Holds.held l.self.ledger.trades) (l.count - l.steps) l.number l.steps ≡ walk (g.M.Holds.held l.self.ledger.trades) l.count l.initial.number 0)

abbrev pub decreases-loop-steps : goal.decreases-loop-steps
decreases-loop-steps g l = l.count - l.steps
