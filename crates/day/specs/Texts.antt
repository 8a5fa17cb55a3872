-- The texts that tell of a day, and a text at the front of a buffer.
use Rattle.std.specs.Prelude.{ℕ, cond, List, [], ◌++◌, length, drop, Some, None, Ok, Err, Option, Result, nat_le}
use Rattle.text.specs.FaultLine.{fault_line}
use Rattle.book.specs.declared.fault.BookFault.{BookFault}
use Rattle.book.specs.declared.fault.BookFault.TheVariants.{ShortBuffer}
use Rattle.book.specs.declared.fault.PlayFault.{PlayFault}
use Rattle.book.specs.Book.{Book}
use Rattle.book.specs.Fault.{play_told}
use Rattle.book.specs.Play.{Played}
use Rattle.book.specs.Report.{report}

-- "fault N place P pair K", with the fault's number, place and pair
abbrev pub fault_text : PlayFault → List ℕ
fault_text f = fault_line (play_told f).0 (play_told f).2 (play_told f).3

-- what stands before the report
abbrev pub front_text : Option PlayFault → List ℕ
front_text None = []
front_text (Some f) = fault_text f

-- the fault's line, if there is one, and then the report
abbrev pub day_text : Option PlayFault → Book → List ℕ
day_text f b = front_text f ++ report b

-- a refusal, if there is one
abbrev pub refusal : Result ℕ PlayFault → Option PlayFault
refusal (Ok n) = None
refusal (Err f) = Some f

-- what there is to tell of a played capture
abbrev pub told_day : Played → List ℕ
told_day p = day_text (refusal p.0) p.1

-- the answer to writing a text to the front of a buffer: its length, or the question on the buffer's length
abbrev pub texted : List ℕ → List ℕ → Result ℕ BookFault
texted text buf = cond (nat_le (length text) (length buf)) (Ok (length text)) (Err (ShortBuffer (length buf)))

-- the buffer after it: the text and then what was there; if it is too short, all as it was
abbrev pub text_after : List ℕ → List ℕ → List ℕ
text_after text buf = cond (nat_le (length text) (length buf)) (text ++ drop (length text) buf) buf
