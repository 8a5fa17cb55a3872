-- A run: a feed, a refused feed, a capture whose last message is refused, readings and another feed.
use Rattle.std.specs.Prelude.{◌≡◌, ℕ, List, [], ◌∷◌, ◌++◌, Some, None, Ok, Err, codes}
use Rattle.std.proofs.Common.{lit≤}
use Rattle.wire.specs.declared.fault.BytesFault.TheVariants.{Empty}
use Rattle.wire.specs.declared.fault.WireFault.TheVariants.{Bytes}
use Rattle.wire.specs.Layout.{digits, bytes_of}
use Rattle.wire.specs.Table.{figure, text, row_S, row_R, row_A, row_E}
use Rattle.book.specs.declared.fault.BookFault.TheVariants.{TooManyShares}
use Rattle.book.specs.declared.fault.FeedFault.TheVariants as feed_fault
use Rattle.book.specs.declared.fault.PlayFault.TheVariants as play_fault
use Rattle.book.specs.Feed.{fed, count}
use Rattle.book.specs.Play.{played}
use Rattle.book.specs.Quote.{quote}
use Rattle.laws.specs.Laws.{sums_at}
use Rattle.laws.specs.Runs.{Call, feeds, plays, reads, of_stock, of_quote, Moment, book_of, history, when}
use Rattle.worked_day.specs.ShortDay.{event_O, list_1, add_7, execute_40}

-- the first event, a stock's entry, an order of 100 shares, an execution of 101 of them, and one of 40

abbrev pub bytes_O : List ℕ
bytes_O = bytes_of (row_S, figure 0 ∷ figure 2 ∷ figure 79 ∷ [])

abbrev pub bytes_R : List ℕ
bytes_R = bytes_of (row_R, figure 1 ∷ figure 3 ∷ text 11 (codes "ABCD    ") ∷ figure 78 ∷ figure 100 ∷ figure 80 ∷ [])

abbrev pub bytes_A : List ℕ
bytes_A = bytes_of (row_A, figure 1 ∷ figure 5 ∷ figure 7 ∷ figure 66 ∷ figure 100 ∷ text 24 (codes "ABCD    ") ∷ figure 100000 ∷ [])

abbrev pub bytes_E101 : List ℕ
bytes_E101 = bytes_of (row_E, figure 1 ∷ figure 7 ∷ figure 7 ∷ figure 101 ∷ figure 10 ∷ [])

abbrev pub bytes_E40 : List ℕ
bytes_E40 = bytes_of (row_E, figure 1 ∷ figure 6 ∷ figure 7 ∷ figure 40 ∷ figure 9 ∷ [])

-- a capture of three: its count, where each message lies and how long it is, and then the messages
abbrev pub capture : List ℕ
capture =
    digits 4 3 ++ digits 4 22 ++ digits 2 25 ++ digits 4 47 ++ digits 2 40 ++ digits 4 87 ++ digits 2 31
    ++ bytes_R ++ bytes_A ++ bytes_E101

-- the calls, the newest first
abbrev pub calls : List Call
calls =
    reads (of_quote 1) ∷ feeds bytes_E40 ∷ reads (of_stock 1) ∷ plays capture 0 ∷ feeds [] ∷ feeds bytes_O ∷ []

-- the moment after them, over stores of 1 stock, 2 orders and 3 trades
abbrev pub at_last : Moment
at_last = record {
  stocks = 1;
  orders = 2;
  trades = 3;
  few_stocks = lit≤ tt;
  few_orders = lit≤ tt;
  few_trades = lit≤ tt;
  calls = calls;
}

-- the moment after the first two, and after the first three
abbrev pub at_two : Moment
at_two = when at_last (feeds [] ∷ feeds bytes_O ∷ [])

abbrev pub at_three : Moment
at_three = when at_last (plays capture 0 ∷ feeds [] ∷ feeds bytes_O ∷ [])

-- what the calls answer, which messages were accepted, and what is read
pub record ARun : Type 0 where
  pub empty_refused : count (fed (book_of at_two) []) ≡ Err (feed_fault.Wire (Bytes Empty))
  pub third_refused : (played (book_of at_two) capture 0).0 ≡ Err (play_fault.Message 2 (feed_fault.Book TooManyShares))
  pub fourth_counted : count (fed (book_of at_three) bytes_E40) ≡ Ok 4
  pub accepted : history at_last ≡ execute_40 ∷ add_7 ∷ list_1 ∷ event_O ∷ []
  pub open_before : (sums_at at_three 1).open_shares ≡ 100
  pub open_after : (sums_at at_last 1).open_shares ≡ 60
  pub volume_after : (sums_at at_last 1).live_volume ≡ 40
  pub quote_after : quote (book_of at_last) 1 ≡ Ok (record { bid = Some (record { price = 100000; shares = 60 }); offer = None })
