-- A text put into a buffer.
use Rattle.std.specs.Prelude.{◌≡◌, ℕ, ◌+◌, ◌<◌, ◌≤◌, List, ◌++◌, length, take, drop, Ok, Err, Result}
use Rattle.text.specs.declared.TooShort.{TooShort}

-- the buffer with the text from `at` on, and every other byte as it was
abbrev pub written : List ℕ → ℕ → List ℕ → List ℕ
written buf at text = take at buf ++ (text ++ drop (at + length text) buf)

-- the whole text and where it ends, or a refusal that changes nothing exactly if it does not fit
abbrev pub Placed : List ℕ → ℕ → List ℕ → List ℕ → Result ℕ TooShort → Type 0
Placed buf at text after (Ok end) = (at + length text ≤ length buf) × (end ≡ at + length text) × (after ≡ written buf at text)
Placed buf at text after (Err e) = (length buf < at + length text) × (after ≡ buf)
