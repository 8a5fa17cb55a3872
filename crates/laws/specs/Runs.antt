-- Calls on an engine, and runs: what calls make of a new engine's book, and the messages that they accepted.
use Rattle.std.specs.Prelude.{ℕ, ◌-◌, ◌≤◌, List, [], ◌∷◌, ◌++◌, Ok, Err, Result}
use Rattle.capture.specs.Index.{count as index_count, messages}
use Rattle.wire.specs.declared.fault.WireFault.{WireFault}
use Rattle.wire.specs.declared.message.Feed.TheVariants.{Depth}
use Rattle.wire.specs.Table.{Row, Value}
use Rattle.decode.specs.Decoding.{decoding}
use Rattle.book.specs.declared.fault.FeedFault.{FeedFault}
use Rattle.book.specs.declared.fault.PlayFault.{PlayFault}
use Rattle.book.specs.declared.fault.PlayFault.TheVariants.{Index, Message}
use Rattle.book.specs.Book.{Book, fresh, after}
use Rattle.book.specs.Feed.{fed, count}
use Rattle.book.specs.Message.{Msg, heard}
use Rattle.book.specs.Play.{played}

-- the readings
pub data Reading : Type 0 where
  of_stock : (locate : ℕ) → Reading
  of_stock_from : (locate : ℕ) → Reading
  of_stocks : Reading
  of_quote : (locate : ℕ) → Reading
  of_order : (reference : ℕ) → Reading
  of_trace : (match : ℕ) → Reading
  of_report : Reading

-- a call on an engine
pub data Call : Type 0 where
  feeds : (bytes : List ℕ) → Call
  plays : (capture : List ℕ) → (start : ℕ) → Call
  reads : Reading → Call

-- the book after a call, as that call's contract has it; no reading changes it
abbrev pub called : Book → Call → Book
called b (feeds bytes) = after b (fed b bytes)
called b (plays capture start) = (played b capture start).1
called b (reads r) = b

-- what decoded bytes say
abbrev pub said_as : Result (Row × List Value) WireFault → List Msg
said_as (Ok m) = heard m ∷ []
said_as (Err f) = []

-- what bytes say, if they decode
abbrev pub said : List ℕ → List Msg
said bytes = said_as (decoding Depth bytes)

-- what messages say that were fed one after another, the newest first
abbrev pub all_said : List (List ℕ) → List Msg
all_said [] = []
all_said (m ∷ ms) = all_said ms ++ said m

-- what feeding accepted of what the bytes say, by its answer: all if it is a count
abbrev pub fed_in : List Msg → Result ℕ FeedFault → List Msg
fed_in ms (Ok n) = ms
fed_in ms (Err f) = []

-- the messages that playing accepted, by its answer: all from the starting pair on, those before the refused one, or none
abbrev pub played_in : List ℕ → ℕ → Result ℕ PlayFault → List Msg
played_in capture start (Ok n) = all_said (messages capture start (index_count capture - start))
played_in capture start (Err (Message pair f)) = all_said (messages capture start (pair - start))
played_in capture start (Err (Index f)) = []

-- the messages that a call accepted
abbrev pub accepted_in : Book → Call → List Msg
accepted_in b (feeds bytes) = fed_in (said bytes) (count (fed b bytes))
accepted_in b (plays capture start) = played_in capture start (played b capture start).0
accepted_in b (reads r) = []

-- the book after calls, the newest first
abbrev pub after_calls : Book → List Call → Book
after_calls b [] = b
after_calls b (c ∷ cs) = called (after_calls b cs) c

-- the messages that calls accepted
abbrev pub accepted_by : Book → List Call → List Msg
accepted_by b [] = []
accepted_by b (c ∷ cs) = accepted_in (after_calls b cs) c ++ accepted_by b cs

-- a moment of a run: a new engine over stores of these places, and the calls so far, the newest first
pub record Moment : Type 0 where
  pub stocks : ℕ
  pub orders : ℕ
  pub trades : ℕ
  pub few_stocks : stocks ≤ 65536
  pub few_orders : orders ≤ 65536
  pub few_trades : trades ≤ 65536
  pub calls : List Call

-- the new engine's book
abbrev pub begun : Moment → Book
begun m = fresh m.stocks m.orders m.trades

-- the book at a moment
abbrev pub book_of : Moment → Book
book_of m = after_calls (begun m) m.calls

-- the messages accepted up to a moment, the newest first
abbrev pub history : Moment → List Msg
history m = accepted_by (begun m) m.calls

-- the moment of the same run when only these calls were made
abbrev pub when : Moment → List Call → Moment
when m cs =
    record { stocks = m.stocks; orders = m.orders; trades = m.trades; few_stocks = m.few_stocks; few_orders = m.few_orders; few_trades = m.few_trades; calls = cs }
