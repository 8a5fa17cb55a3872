-- Texts put into a buffer one after another, and a line.
use Rattle.std.specs.Prelude.{◌≡◌, ℕ, ◌+◌, ◌<◌, ◌≤◌, List, [], ◌∷◌, length, Ok, Err, Result}
use Rattle.text.specs.declared.TooShort.{TooShort}
use Rattle.text.specs.Placed.{written}
use Rattle.lines.specs.declared.pen.Pen.{Pen}

-- A buffer, and the place that is written next.
abbrev pub Spot : Type 0
Spot = List ℕ × ℕ

-- The buffer with the text from that place on, and where the text ends.
unfoldable pub put : Spot → List ℕ → Spot
put s t = (written s.0 s.1 t, s.1 + length t)

-- The same with each of these texts.
abbrev pub puts : Spot → List (List ℕ) → Spot
puts s [] = s
puts s (t ∷ ts) = puts (put s t) ts

-- These texts were put by a pen from its place on, and it holds the same buffer still.
abbrev pub Writes : Pen → List (List ℕ) → Pen → Type 0
Writes p ts q = (puts (p.buf.now, p.at) ts ≡ (q.buf.now, q.at)) × (length q.buf.now ≡ length p.buf.now) × (q.buf.ghost_name ≡ p.buf.ghost_name)

-- A line is in the buffer from `at` on and ends there, or it was refused, which changes nothing, exactly if fewer than 256 bytes were left.
abbrev pub Lined : List ℕ → ℕ → List ℕ → List ℕ → Result ℕ TooShort → Type 0
Lined buf at text after (Ok end) = (at + 256 ≤ length buf) × (end ≡ at + length text) × (after ≡ written buf at text)
Lined buf at text after (Err e) = (length buf < at + 256) × (after ≡ buf)
