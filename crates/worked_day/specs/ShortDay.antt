-- A short day over stores of 1 stock, 2 orders and 3 trades. Each message follows the accepted ones before it.
use Rattle.std.specs.Prelude.{◌≡◌, ℕ, List, Some, None, Ok, Err, codes, Option, Result}
use Rattle.wire.specs.declared.fault.Layer.{Layer}
use Rattle.wire.specs.declared.fault.Layer.TheVariants as layer
use Rattle.store.specs.Held.{find}
use Rattle.book.specs.declared.fault.BookFault.{BookFault}
use Rattle.book.specs.declared.value.Listing.{Listing}
use Rattle.book.specs.declared.value.Quote.{Quote}
use Rattle.book.specs.declared.value.Side.TheVariants.{Buy}
use Rattle.book.specs.declared.value.Standing.TheVariants.{Broken}
use Rattle.book.specs.declared.value.Stock.{Stock}
use Rattle.book.specs.declared.value.Sums.{Sums}
use Rattle.book.specs.declared.value.TradingState.{TradingState}
use Rattle.book.specs.declared.value.TradingState.TheVariants.{Halted}
use Rattle.book.specs.Book.{Book, fresh, after}
use Rattle.book.specs.Fault.{book_told}
use Rattle.book.specs.Feed.{feed}
use Rattle.book.specs.Message.{Msg, says, events, lists, adds, executes, replaces, corrects, breaks}
use Rattle.book.specs.Quote.{quote}
use Rattle.book.specs.Report.{report}
use Rattle.book.specs.Sums.{nothing}
use Rattle.book.specs.Trace.{trace}

-- the book after a message
abbrev pub on : Book → Msg → Book
on b m = after b (feed b m)

-- the count accepted so far, or number, layer and place of the fault
abbrev pub answered : Result Book BookFault → Result ℕ (ℕ × Layer × ℕ)
answered (Ok b) = Ok b.accepted
answered (Err f) = Err (book_told f)

abbrev pub answer : Book → Msg → Result ℕ (ℕ × Layer × ℕ)
answer b m = answered (feed b m)

-- the book's refusal with a number and a place
abbrev pub refused : ℕ → ℕ → Result ℕ (ℕ × Layer × ℕ)
refused number place = Err (number, layer.Book, place)

-- a stock's sums and trading state; one that is not known counts as zero
abbrev pub sums_in : Option Stock → Sums
sums_in None = nothing
sums_in (Some s) = s.sums

abbrev pub state_in : Option Stock → Option TradingState
state_in None = None
state_in (Some s) = Some s.state

abbrev pub sums : Book → Sums
sums b = sums_in (find b.stocks 1)

-- a bid of so many shares at a price, and no offer
abbrev pub bid_only : ℕ → ℕ → Quote
bid_only price shares = record { bid = Some (record { price = price; shares = shares }); offer = None }

-- the directory's entry of a stock in lots of 100
abbrev pub listed : List ℕ → Listing
listed symbol = record { symbol = symbol; category = 78; lot = 100; authenticity = 80 }

-- the messages, by stamp
abbrev pub event_S : Msg
event_S = says 0 1 (events 83)

abbrev pub event_O : Msg
event_O = says 0 2 (events 79)

abbrev pub list_1 : Msg
list_1 = says 1 3 (lists (listed (codes "ABCD    ")))

abbrev pub list_2 : Msg
list_2 = says 2 4 (lists (listed (codes "EFGH    ")))

abbrev pub add_7 : Msg
add_7 = says 1 5 (adds 7 Buy 100 100000 (codes "ABCD    "))

abbrev pub execute_40 : Msg
execute_40 = says 1 6 (executes 7 40 9)

abbrev pub execute_61 : Msg
execute_61 = says 1 7 (executes 7 61 10)

abbrev pub execute_60 : Msg
execute_60 = says 1 8 (executes 7 60 9)

abbrev pub replace_7 : Msg
replace_7 = says 1 9 (replaces 7 8 50 100100)

abbrev pub correct_9 : Msg
correct_9 = says 1 10 (corrects 9 10 30 100000)

abbrev pub break_9 : Msg
break_9 = says 1 11 (breaks 9)

abbrev pub break_10 : Msg
break_10 = says 1 12 (breaks 10)

-- the books after those that are accepted
abbrev pub new : Book
new = fresh 1 2 3

abbrev pub begun : Book
begun = on new event_O

abbrev pub known : Book
known = on begun list_1

abbrev pub opened : Book
opened = on known add_7

abbrev pub executed : Book
executed = on opened execute_40

abbrev pub replaced : Book
replaced = on executed replace_7

abbrev pub corrected : Book
corrected = on replaced correct_9

abbrev pub broken : Book
broken = on corrected break_10

-- what each message answers, and what the readings then tell
pub record ShortDay : Type 0 where
  pub event_too_early : answer new event_S ≡ refused 11 11
  pub event_due : answer new event_O ≡ Ok 1
  pub stock_enters : answer begun list_1 ≡ Ok 2
  pub stock_halted : state_in (find known.stocks 1) ≡ Some Halted
  pub no_free_place : answer known list_2 ≡ refused 14 1
  pub added : (sums opened).added ≡ 100
  pub shares_open : (sums opened).open_shares ≡ 100
  pub quote_opened : quote opened 1 ≡ Ok (bid_only 100000 100)
  pub shares_left : (sums executed).open_shares ≡ 60
  pub volume : (sums executed).live_volume ≡ 40
  pub turnover : (sums executed).turnover ≡ 4000000
  pub quote_lowered : quote executed 1 ≡ Ok (bid_only 100000 60)
  pub too_many_shares : answer executed execute_61 ≡ refused 20 19
  pub match_used : answer executed execute_60 ≡ refused 21 23
  pub added_again : (sums replaced).added ≡ 150
  pub removed : (sums replaced).removed ≡ 60
  pub shares_replaced : (sums replaced).open_shares ≡ 50
  pub quote_replaced : quote replaced 1 ≡ Ok (bid_only 100100 50)
  pub reported : report replaced ≡ codes "1 ABCD 50 40\n"
  pub volume_corrected : (sums corrected).live_volume ≡ 30
  pub turnover_corrected : (sums corrected).turnover ≡ 3000000
  pub not_live : answer corrected break_9 ≡ refused 18 11
  pub volume_broken : (sums broken).live_volume ≡ 0
  pub traced : trace broken.trades 9 ≡ Some (10, Broken, 1)
