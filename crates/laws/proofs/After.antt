-- What an accepted message leaves of the book: its steps with all questions passed, by one write for each store.
use Rattle.std.proofs.Common.{ℕ, ◌+◌, true, cond, leb, List, Some, None, Ok, Err, Option, Result}
use Rattle.store.specs.Held.{write}
use Rattle.book.specs.declared.fault.BookFault.{BookFault}
use Rattle.book.specs.declared.phase.Phase.{Phase}
use Rattle.book.specs.declared.value.Listing.{Listing}
use Rattle.book.specs.declared.value.Order.{Order}
use Rattle.book.specs.declared.value.ShortSale.{ShortSale}
use Rattle.book.specs.declared.value.Standing.TheVariants.{Live, Broken, Corrected}
use Rattle.book.specs.declared.value.Stock.{Stock}
use Rattle.book.specs.declared.value.Sums.{Sums}
use Rattle.book.specs.declared.value.Trade.{Trade}
use Rattle.book.specs.declared.value.TradingState.{TradingState}
use Rattle.book.specs.Book.{Book}
use Rattle.book.specs.Day.{next}
use Rattle.book.specs.Message.{Msg, says, events, lists, acts, restricts, adds, executes, cancels, deletes, replaces, corrects, breaks, foreign}
use Rattle.book.specs.Orders.{reduces}
use Rattle.book.specs.Sums as sum
use Rattle.book.specs.Sums.{◌⊕◌, nothing, opens, lowers, removes, trades, untrades}
use Rattle.laws.specs.History.{locate_of, is_event, less, renewed, executed_of, standing_as}
use Rattle.laws.proofs.Readings.{stock, sums, order, trade}

-- one where the order leaves
abbrev pub gone : Order → ℕ → ℕ
gone o s = cond (leb o.shares s) 1 0

-- the trade that stands in for a corrected one, as the book counts its steps
abbrev pub stepped : ℕ → ℕ → Trade → Trade
stepped s p t = record { locate = t.locate; price = p; shares = s; step = t.step ⊕ 1; standing = Live }

-- the stock's figures; o is the order that the message names, t the trade
module _ (x : Sums) where
  abbrev pub with_added : ℕ → Sums
  with_added s = opens x s

  abbrev pub with_executed : Order → ℕ → Sums
  with_executed o s = reduces (sum.executes x o.price s) o s

  abbrev pub with_cancelled : Order → ℕ → Sums
  with_cancelled o s = reduces (removes x s) o s

  abbrev pub with_deleted : Order → Sums
  with_deleted o = lowers (removes x o.shares) o.shares true

  abbrev pub with_broken : Trade → Sums
  with_broken t = untrades x t.price t.shares

  abbrev pub with_traded : ℕ → ℕ → Sums
  with_traded s p = trades x p s

-- what a message tells of its stock, and of the day
abbrev pub listing_by : Msg → Listing → Listing
listing_by (says l stamp (events v)) x = x
listing_by (says l stamp (lists v)) x = v
listing_by (says l stamp (acts y v)) x = x
listing_by (says l stamp (restricts y v)) x = x
listing_by (says l stamp (adds r by s p y)) x = x
listing_by (says l stamp (executes r s k)) x = x
listing_by (says l stamp (cancels r s)) x = x
listing_by (says l stamp (deletes r)) x = x
listing_by (says l stamp (replaces r n s p)) x = x
listing_by (says l stamp (corrects k n s p)) x = x
listing_by (says l stamp (breaks k)) x = x
listing_by (says l stamp foreign) x = x

abbrev pub state_by : Msg → TradingState → TradingState
state_by (says l stamp (events v)) x = x
state_by (says l stamp (lists v)) x = x
state_by (says l stamp (acts y v)) x = v
state_by (says l stamp (restricts y v)) x = x
state_by (says l stamp (adds r by s p y)) x = x
state_by (says l stamp (executes r s k)) x = x
state_by (says l stamp (cancels r s)) x = x
state_by (says l stamp (deletes r)) x = x
state_by (says l stamp (replaces r n s p)) x = x
state_by (says l stamp (corrects k n s p)) x = x
state_by (says l stamp (breaks k)) x = x
state_by (says l stamp foreign) x = x

abbrev pub restriction_by : Msg → Option ShortSale → Option ShortSale
restriction_by (says l stamp (events v)) x = x
restriction_by (says l stamp (lists v)) x = x
restriction_by (says l stamp (acts y v)) x = x
restriction_by (says l stamp (restricts y v)) x = Some v
restriction_by (says l stamp (adds r by s p y)) x = x
restriction_by (says l stamp (executes r s k)) x = x
restriction_by (says l stamp (cancels r s)) x = x
restriction_by (says l stamp (deletes r)) x = x
restriction_by (says l stamp (replaces r n s p)) x = x
restriction_by (says l stamp (corrects k n s p)) x = x
restriction_by (says l stamp (breaks k)) x = x
restriction_by (says l stamp foreign) x = x

abbrev pub stamp_of : Msg → ℕ
stamp_of (says l stamp v) = stamp

abbrev pub reached : Phase → Result Phase BookFault → Phase
reached p (Ok q) = q
reached p (Err e) = p

abbrev pub phase_by : Msg → Phase → Phase
phase_by (says l stamp (events v)) x = reached x (next x v)
phase_by (says l stamp (lists v)) x = x
phase_by (says l stamp (acts y v)) x = x
phase_by (says l stamp (restricts y v)) x = x
phase_by (says l stamp (adds r by s p y)) x = x
phase_by (says l stamp (executes r s k)) x = x
phase_by (says l stamp (cancels r s)) x = x
phase_by (says l stamp (deletes r)) x = x
phase_by (says l stamp (replaces r n s p)) x = x
phase_by (says l stamp (corrects k n s p)) x = x
phase_by (says l stamp (breaks k)) x = x
phase_by (says l stamp foreign) x = x

module _ (b : Book) where
  abbrev pub sums_after : Msg → Sums
  sums_after (says l stamp (events v)) = nothing
  sums_after (says l stamp (lists v)) = sums b l
  sums_after (says l stamp (acts y v)) = sums b l
  sums_after (says l stamp (restricts y v)) = sums b l
  sums_after (says l stamp (adds r by s p y)) = with_added (sums b l) s
  sums_after (says l stamp (executes r s k)) = with_executed (sums b l) (order b r) s
  sums_after (says l stamp (cancels r s)) = with_cancelled (sums b l) (order b r) s
  sums_after (says l stamp (deletes r)) = with_deleted (sums b l) (order b r)
  sums_after (says l stamp (replaces r n s p)) = with_added (with_deleted (sums b l) (order b r)) s
  sums_after (says l stamp (corrects k n s p)) = with_traded (with_broken (sums b l) (trade b k)) s p
  sums_after (says l stamp (breaks k)) = with_broken (sums b l) (trade b k)
  sums_after (says l stamp foreign) = nothing

  abbrev pub orders_after : Msg → List (ℕ × Order)
  orders_after (says l stamp (events v)) = b.orders.pairs
  orders_after (says l stamp (lists v)) = b.orders.pairs
  orders_after (says l stamp (acts y v)) = b.orders.pairs
  orders_after (says l stamp (restricts y v)) = b.orders.pairs
  orders_after (says l stamp (adds r by s p y)) = write b.orders.pairs r (Some (record { locate = l; side = by; price = p; shares = s }))
  orders_after (says l stamp (executes r s k)) = write b.orders.pairs r (less (order b r) s)
  orders_after (says l stamp (cancels r s)) = write b.orders.pairs r (less (order b r) s)
  orders_after (says l stamp (deletes r)) = write b.orders.pairs r None
  orders_after (says l stamp (replaces r n s p)) = write (write b.orders.pairs r None) n (Some (renewed s p (order b r)))
  orders_after (says l stamp (corrects k n s p)) = b.orders.pairs
  orders_after (says l stamp (breaks k)) = b.orders.pairs
  orders_after (says l stamp foreign) = b.orders.pairs

  abbrev pub trades_after : Msg → List (ℕ × Trade)
  trades_after (says l stamp (events v)) = b.trades.pairs
  trades_after (says l stamp (lists v)) = b.trades.pairs
  trades_after (says l stamp (acts y v)) = b.trades.pairs
  trades_after (says l stamp (restricts y v)) = b.trades.pairs
  trades_after (says l stamp (adds r by s p y)) = b.trades.pairs
  trades_after (says l stamp (executes r s k)) = write b.trades.pairs k (Some (executed_of s (order b r)))
  trades_after (says l stamp (cancels r s)) = b.trades.pairs
  trades_after (says l stamp (deletes r)) = b.trades.pairs
  trades_after (says l stamp (replaces r n s p)) = b.trades.pairs
  trades_after (says l stamp (corrects k n s p)) =
      write (write b.trades.pairs n (Some (stepped s p (trade b k)))) k (Some (standing_as (Corrected n) (trade b k)))
  trades_after (says l stamp (breaks k)) = write b.trades.pairs k (Some (standing_as Broken (trade b k)))
  trades_after (says l stamp foreign) = b.trades.pairs

  abbrev pub stock_after : Msg → Stock
  stock_after m =
      record {
        listing = listing_by m (stock b (locate_of m)).listing;
        state = state_by m (stock b (locate_of m)).state;
        restriction = restriction_by m (stock b (locate_of m)).restriction;
        stamp = stamp_of m;
        sums = sums_after m;
      }

  abbrev pub stocks_after : Msg → List (ℕ × Stock)
  stocks_after m = cond (is_event m) b.stocks.pairs (write b.stocks.pairs (locate_of m) (Some (stock_after m)))

  abbrev pub after : Msg → Book
  after m =
      record {
        stocks = record { pairs = stocks_after m; places = b.stocks.places };
        orders = record { pairs = orders_after m; places = b.orders.places };
        trades = record { pairs = trades_after m; places = b.trades.places };
        phase = phase_by m b.phase;
        accepted = b.accepted + 1;
      }
