use Rattle.std.proofs.Common.{◌^◌, ◌<◌}
use Rattle.text.proofs.Digits.{Left}
use Rattle.text.proofs.number.put_digits.Given as goal

abbrev pub invariant-loop-i : goal.invariant-loop-i
invariant-loop-i l = Left l.i l.rest l.to l.n × (l.rest < 2 ^ 64)
