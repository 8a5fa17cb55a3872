-- What a day over stores of 512 places tells.
use Rattle.std.specs.Prelude.{◌≡◌, ℕ, List, Ok, Err, Result}
use Rattle.std.specs.declared.io.ErrorKind.{ErrorKind}
use Rattle.std.specs.declared.io.ErrorKind.TheVariants.{OutOfMemory, Other}
use Rattle.book.specs.Book.{fresh}
use Rattle.book.specs.Play.{played}
use Rattle.day.specs.Texts.{told_day, texted, text_after}
use Rattle.small_day.specs.declared.DayError.{DayError}
use Rattle.small_day.specs.declared.DayError.TheVariants.{NoMemory, Refused}

-- the text of a capture played from its first pair
abbrev pub text : List ℕ → List ℕ
text capture = told_day (played (fresh 512 512 512) capture 0)

-- the text at the front of the buffer, or refused and the buffer as it was; want of memory changes nothing
abbrev pub Told : (capture buf : List ℕ) → Result ℕ DayError → (after : List ℕ) → Type 0
Told capture buf (Ok n) after = (texted (text capture) buf ≡ Ok n) × (after ≡ text_after (text capture) buf)
Told capture buf (Err (Refused f)) after = (texted (text capture) buf ≡ Err f) × (after ≡ text_after (text capture) buf)
Told capture buf (Err NoMemory) after = after ≡ buf

-- as an error of input or output: want of memory is its own kind
abbrev pub kind_of : DayError → ErrorKind
kind_of NoMemory = OutOfMemory
kind_of (Refused f) = Other
