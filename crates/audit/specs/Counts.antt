-- How many messages an audit went through.
use Rattle.std.specs.Prelude.{◌≡◌, ℕ, ◌+◌, List, Ok, Err, Result}
use Rattle.capture.specs.Index.{judged}
use Rattle.capture.specs.declared.fault.CaptureFault.{CaptureFault}

-- of a judged index every message is either accepted or refused; of a refused index none is fed
abbrev pub CountsAs : Result ℕ CaptureFault → (messages accepted refused : ℕ) → Type 0
CountsAs (Ok n) messages accepted refused = (messages ≡ n) × (accepted + refused ≡ n)
CountsAs (Err f) messages accepted refused = (messages ≡ 0) × (accepted + refused ≡ 0)

abbrev pub Counts : List ℕ → (messages accepted refused : ℕ) → Type 0
Counts capture messages accepted refused = CountsAs (judged capture) messages accepted refused
