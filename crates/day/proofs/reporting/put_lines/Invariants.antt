-- the front of the report stands in the buffer, and the lines that are left are the rest of it
use Rattle.std.proofs.Common.{◌≡◌, ◌+◌, ◌-◌, ◌≤◌, length, take, drop}
use Rattle.text.specs.Placed.{written}
use Rattle.day.proofs.Reports.{text_of}
use Rattle.day.proofs.reporting.put_lines.Given as goal

abbrev pub invariant-loop-locate : goal.invariant-loop-locate
invariant-loop-locate g l =
    (l.start ≤ l.at)
    × (l.at ≤ l.start + length (text_of (g.S.Holds.held l.engine.ledger.stocks).pairs))
    × (l.buf ≡ written l.initial.buf l.start (take (l.at - l.start) (text_of (g.S.Holds.held l.engine.ledger.stocks).pairs)))
    × (drop (l.at - l.start) (text_of (g.S.Holds.held l.engine.ledger.stocks).pairs) ≡ text_of l.locate-iterator)
