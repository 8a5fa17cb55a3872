-- What is left decides, and the first byte has been seen to be printable.
use Rattle.std.proofs.Common.{◌≡◌, ◌<◌, true, false, get_or, drop}
use Rattle.wire.specs.Symbols.{filled, printable}
use Rattle.wire.proofs.symbols.is_symbol.Given as goal

abbrev pub invariant-loop-i : goal.invariant-loop-i
invariant-loop-i l =
    (filled l.ended (drop l.i l.bytes) ≡ filled false l.bytes)
    × (0 < l.i → printable (get_or l.bytes 0 0) ≡ true)
