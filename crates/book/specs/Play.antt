-- A capture's messages fed one after another, up to the first that is refused.
use Rattle.std.specs.Prelude.{ℕ, ◌+◌, ◌-◌, cond, List, [], ◌∷◌, Ok, Err, Result, nat_lt}
use Rattle.capture.specs.declared.fault.CaptureFault.{CaptureFault}
use Rattle.capture.specs.declared.fault.CaptureFault.TheVariants.{StartsPast}
use Rattle.capture.specs.Index.{judged, messages}
use Rattle.book.specs.declared.fault.FeedFault.{FeedFault}
use Rattle.book.specs.declared.fault.PlayFault.{PlayFault}
use Rattle.book.specs.declared.fault.PlayFault.TheVariants.{Index, Message}
use Rattle.book.specs.Book.{Book}
use Rattle.book.specs.Feed.{fed}

-- how many were fed, or why playing stopped; and the book after
abbrev pub Played : Type 0
Played = Result ℕ PlayFault × Book

-- on from an accepted message; a refused one stops, and what was fed before it stays
abbrev pub go_on : Book → ℕ → Result Book FeedFault → (Book → Played) → Played
go_on b pair (Ok b') on = on b'
go_on b pair (Err e) on = (Err (Message pair e), b)

-- the messages of the pairs from `pair` on; n were fed before
abbrev pub plays : Book → (pair n : ℕ) → List (List ℕ) → Played
plays b pair n [] = (Ok n, b)
plays b pair n (m ∷ ms) = go_on b pair (fed b m) (λ b'. plays b' (pair + 1) (n + 1) ms)

-- a judged capture is played from a pair that is at most its count
abbrev pub played_as : Book → List ℕ → ℕ → Result ℕ CaptureFault → Played
played_as b bytes start (Ok n) =
    cond (nat_lt n start) (Err (Index (StartsPast start)), b) (plays b start 0 (messages bytes start (n - start)))
played_as b bytes start (Err f) = (Err (Index f), b)

-- a capture played from a pair
abbrev pub played : Book → List ℕ → ℕ → Played
played b bytes start = played_as b bytes start (judged bytes)

-- feeding's answer as playing's, at a pair
abbrev pub at_pair : Result ℕ FeedFault → ℕ → Result (Unit {0}) PlayFault
at_pair (Ok n) pair = Ok tt
at_pair (Err e) pair = Err (Message pair e)
