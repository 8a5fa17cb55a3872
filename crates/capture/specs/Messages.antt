-- What the walk over a capture's messages gives.
use Rattle.std.specs.Prelude.{◌≡◌, ℕ, ◌+◌, ◌<◌, ◌≤◌, List, Option, MatchOption}
use Rattle.std.specs.Borrow.{Bor}
use Rattle.capture.specs.Index.{message}
use Rattle.capture.specs.declared.messages.Messages.{Messages}

-- a step gives the message of the next pair, with the pair's number, and goes on to the pair after it; behind the last there is none
abbrev pub Gives : Messages → Option (ℕ × Bor (List ℕ)) → Messages → Type 0
Gives s r t =
    MatchOption r
    ((s.capture.count ≤ s.pair) × (t ≡ s))
    (λ x. (s.pair < s.capture.count) × (x.0 ≡ s.pair) × (x.1.now ≡ message s.capture.bytes.now s.pair) × (t.capture ≡ s.capture) × (t.pair ≡ s.pair + 1))
