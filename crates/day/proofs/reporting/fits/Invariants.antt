-- whether what is left fits decides whether the whole does
use Rattle.std.proofs.Common.{◌≡◌, leb, length}
use Rattle.day.proofs.Reports.{text_of}
use Rattle.day.proofs.reporting.fits.Given as goal

abbrev pub invariant-loop-locate : goal.invariant-loop-locate
invariant-loop-locate g l =
    leb (length (text_of l.locate-iterator)) l.left ≡ leb (length (text_of (g.S.Holds.held l.engine.ledger.stocks).pairs)) l.initial.left
