-- every message so far was accepted or refused
use Rattle.std.proofs.Common.{◌≡◌, ◌+◌, ◌≤◌}
use Rattle.audit.proofs.whole.audit_over.Given as goal

abbrev pub invariant-loop-pair : goal.invariant-loop-pair
invariant-loop-pair g l =
    (l.pair-iterator.capture ≡ l.fn.capture)
    × (l.audited.messages ≡ l.fn.capture.count)
    × (l.audited.accepted + l.audited.refused ≡ l.pair-iterator.pair)
    × (l.pair-iterator.pair ≤ l.fn.capture.count)
