-- Lines of a capture one after another, as many as a buffer has room for.
use Rattle.std.specs.Prelude.{ℕ, suc, ◌+◌, ◌-◌, Bool, cond, List, [], ◌∷◌, ◌++◌, length, is_err, Ok, Err, Result, nat_lt}
use Rattle.wire.specs.declared.message.Feed.{Feed}
use Rattle.capture.specs.declared.fault.CaptureFault.{CaptureFault}
use Rattle.capture.specs.Index.{judged, messages}
use Rattle.decode.specs.Decoding.{decoding}
use Rattle.lines.specs.Line.{line}
use Rattle.listing.specs.Rewriting.{differs}

-- How many messages an index lays out: none if it is refused.
abbrev pub laid_out : Result ℕ CaptureFault → ℕ
laid_out (Ok n) = n
laid_out (Err f) = 0

-- How many messages a capture has.
abbrev pub total : List ℕ → ℕ
total capture = laid_out (judged capture)

-- The lines of messages, the first of which is that of pair k.
abbrev pub lines : Feed → ℕ → List (List ℕ) → List ℕ
lines f k [] = []
lines f k (m ∷ ms) = line k (decoding f m) ++ lines f (k + 1) ms

-- How many of them go into so much room: each line is begun only where 256 bytes are left.
abbrev pub fitting : Feed → ℕ → ℕ → List (List ℕ) → ℕ
fitting f room k [] = 0
fitting f room k (m ∷ ms) = cond (nat_lt room 256) 0 (suc (fitting f (room - length (line k (decoding f m))) (k + 1) ms))

-- How many of these messages pass a test.
abbrev pub how_many : (List ℕ → Bool) → List (List ℕ) → ℕ
how_many test [] = 0
how_many test (m ∷ ms) = cond (test m) 1 0 + how_many test ms

-- Is a message refused?
abbrev pub refused_in : Feed → List ℕ → Bool
refused_in f m = is_err (decoding f m)

-- How many of the first n messages of a capture are refused.
abbrev pub refusals : Feed → List ℕ → ℕ → ℕ
refusals f capture n = how_many (refused_in f) (messages capture 0 n)

-- How many of them differ when they are written again.
abbrev pub differences : Feed → List ℕ → ℕ → ℕ
differences f capture n = how_many (differs f) (messages capture 0 n)

-- How many lines of a capture go into so much room, from pair k on.
abbrev pub page_lines : Feed → List ℕ → ℕ → ℕ → ℕ
page_lines f capture k room = fitting f room k (messages capture k (total capture - k))

-- Those lines.
abbrev pub page_text : Feed → List ℕ → ℕ → ℕ → List ℕ
page_text f capture k room = lines f k (messages capture k (page_lines f capture k room))
