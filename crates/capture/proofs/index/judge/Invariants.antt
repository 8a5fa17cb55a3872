use Rattle.std.proofs.Common.{◌≡◌, ◌+◌, ◌-◌, ◌*◌, ◌≤◌, length}
use Rattle.capture.specs.Index.{judged, judged_from}
use Rattle.capture.proofs.index.judge.Given as goal

abbrev pub invariant-loop-pair : goal.invariant-loop-pair
invariant-loop-pair l =
    (judged_from l.bytes (length l.entries - l.pair) l.pair l.end ≡ judged l.bytes)
    × (4 + 6 * length l.entries ≤ length l.bytes) × (l.end ≤ length l.bytes)
