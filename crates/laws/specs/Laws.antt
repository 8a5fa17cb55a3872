-- The laws of every run.
use Rattle.std.specs.Prelude.{◌≡◌, ℕ, zero, suc, ◌+◌, ◌*◌, ◌≤◌, cond, List, ◌++◌, length, is_some, Some, Ok, Err, Option, Result, ◌≢◌, nat_eq}
use Rattle.store.specs.Held.{at, Rising}
use Rattle.store.specs.Sums.{sum, kept}
use Rattle.book.specs.declared.fault.BookFault.{BookFault}
use Rattle.book.specs.declared.value.Quote.{Quote}
use Rattle.book.specs.declared.value.Standing.TheVariants.{Corrected}
use Rattle.book.specs.declared.value.Stock.{Stock}
use Rattle.book.specs.declared.value.Sums.{Sums}
use Rattle.book.specs.declared.value.Trade.{Trade}
use Rattle.book.specs.Book.{stock}
use Rattle.book.specs.Message.{Msg}
use Rattle.book.specs.Quote.{orders_of, quote}
use Rattle.book.specs.Sums.{nothing}
use Rattle.book.specs.Trace.{End, trace}
use Rattle.book.specs.Trades.{is_live}
use Rattle.laws.specs.History.{story, listed, open_order, made_trade, total, adding, executing, removing, trading, breaking, correcting_from, correcting_to}
use Rattle.laws.specs.Runs.{Call, Moment, book_of, history, accepted_by, when}

-- the trades of one stock
abbrev pub trades_of : List (ℕ × Trade) → ℕ → List (ℕ × Trade)
trades_of ts l = kept (λ t. nat_eq t.locate l) ts

-- the sums in the answer of the stock reading; a stock that is not known counts as zero
abbrev pub sums_in : Result Stock BookFault → Sums
sums_in (Ok s) = s.sums
sums_in (Err e) = nothing

-- the calls up to a moment, cut in two: an earlier moment, and the calls since
pub record Since (m : Moment) : Type 0 where
  pub new : List Call
  pub old : List Call
  pub cut : m.calls ≡ new ++ old

-- the earlier moment
abbrev pub earlier : (m : Moment) → Since m → Moment
earlier m e = when m e.old

-- the messages of a stock accepted since, summed, each after all that came before it
abbrev pub between : (m : Moment) → Since m → ℕ → (List Msg → Msg → ℕ) → ℕ
between m e l f = total f l (accepted_by (book_of (earlier m e)) e.new) (history (earlier m e))

-- the sums of a stock at a moment
abbrev pub sums_at : Moment → ℕ → Sums
sums_at m l = sums_in (stock (book_of m) l 0)

-- a figure of the live trades grows by the executed less the broken, and by the corrected to less the corrected from
abbrev pub FigureGrows : (m : Moment) → ℕ → Sums → (ℕ → ℕ → ℕ) → (Sums → ℕ) → Type 0
FigureGrows m l t g figure =
    (e : Since m) →
    figure t + between m e l (breaking g) + between m e l (correcting_from g)
    ≡ figure (sums_at (earlier m e) l) + between m e l (trading g) + between m e l (correcting_to g)

-- a running sum grows by what the messages say
abbrev pub CounterGrows : (m : Moment) → ℕ → Sums → (Sums → ℕ) → (List Msg → Msg → ℕ) → Type 0
CounterGrows m l t counter f = (e : Since m) → counter t ≡ counter (sums_at (earlier m e) l) + between m e l f

-- a figure summed over a stock's live trades
abbrev pub live : Moment → ℕ → (ℕ → ℕ → ℕ) → ℕ
live m l g = sum (λ t. cond (is_live t.standing) (g t.shares t.price) 0) (trades_of (book_of m).trades.pairs l)

-- the sums are those of the stock's open orders and live trades
pub record SumsStand (m : Moment) (l : ℕ) (t : Sums) : Type 0 where
  pub open_shares : t.open_shares ≡ sum (λ o. o.shares) (orders_of (book_of m).orders.pairs l)
  pub open_orders : t.open_orders ≡ length (orders_of (book_of m).orders.pairs l)
  pub live_trades : t.live_trades ≡ live m l (λ shares price. 1)
  pub live_volume : t.live_volume ≡ live m l (λ shares price. shares)
  pub turnover : t.turnover ≡ live m l (λ shares price. price * shares)

-- no sum comes near 18,446,744,073,709,551,615, where it would stop
pub record Exact (m : Moment) (t : Sums) : Type 0 where
  pub messages : length (history m) ≤ 1000000000
  pub added : t.added ≤ 1000000 * length (history m)
  pub executed : t.executed ≤ 1000000 * length (history m)
  pub removed : t.removed ≤ 1000000 * length (history m)
  pub open_shares : t.open_shares ≤ 1000000 * length (history m)
  pub open_orders : t.open_orders ≤ 65536
  pub live_trades : t.live_trades ≤ 65536
  pub live_volume : t.live_volume ≤ 65536 * 1000000
  pub turnover : t.turnover ≤ 65536 * 100000000000000

-- the stores hold exactly the known stocks, the open orders and all trades made, each once
pub record Stores (m : Moment) : Type 0 where
  pub stocks : (l : ℕ) → is_some (at (book_of m).stocks.pairs l) ≡ listed (history m) l
  pub orders : (r : ℕ) → at (book_of m).orders.pairs r ≡ open_order (history m) r
  pub trades : (k : ℕ) → at (book_of m).trades.pairs k ≡ made_trade (history m) k
  pub once : Rising (book_of m).stocks.pairs × Rising (book_of m).orders.pairs × Rising (book_of m).trades.pairs

-- the laws of the stock reading: r is its answer at the moment m, for the locate l
pub record StockLaws (m : Moment) (l : ℕ) (r : Result Stock BookFault) : Type 0 where
  -- open shares grow by the added less the executed and the removed
  pub open_shares_grow : (e : Since m) →
      (sums_in r).open_shares + between m e l executing + between m e l removing ≡ (sums_at (earlier m e) l).open_shares + between m e l adding
  -- the live volume counts a trade's shares
  pub volume_grows : FigureGrows m l (sums_in r) (λ shares price. shares) (λ t. t.live_volume)
  -- the turnover counts a trade's price times its shares
  pub turnover_grows : FigureGrows m l (sums_in r) (λ shares price. price * shares) (λ t. t.turnover)
  -- added, executed and removed are running sums of what the messages say
  pub added_grows : CounterGrows m l (sums_in r) (λ t. t.added) adding
  pub executed_grows : CounterGrows m l (sums_in r) (λ t. t.executed) executing
  pub removed_grows : CounterGrows m l (sums_in r) (λ t. t.removed) removing
  -- the sums are those of the open orders and the live trades in the stores
  pub sums_stand : SumsStand m l (sums_in r)
  -- the stock's own messages decide: other stocks' messages, other refusals and other places change nothing
  pub apart : (n : Moment) → story l (history m) ≡ story l (history n) → r ≡ stock (book_of n) l 0
  -- no sum stops
  pub exact : Exact m (sums_in r)
  -- the stores hold what the messages say
  pub stores : Stores m

-- the laws of the quote: r is its answer at the moment m, for the locate l
pub record QuoteLaws (m : Moment) (l : ℕ) (r : Result Quote BookFault) : Type 0 where
  -- the stock's own messages decide
  pub apart : (n : Moment) → story l (history m) ≡ story l (history n) → r ≡ quote (book_of n) l

-- the trade under the first number was corrected, and the second number stands in for it
abbrev pub CorrectedInto : List Msg → ℕ → ℕ → Type 0
CorrectedInto h k n = (t : Trade) × (made_trade h k ≡ Some t) × (t.standing ≡ Corrected n)

-- from the match number k so many corrections lead to j
abbrev pub Leads : List Msg → (steps : ℕ) → (k j : ℕ) → Type 0
Leads h zero k j = k ≡ j
Leads h (suc n) k j = (i : ℕ) × CorrectedInto h k i × Leads h n i j

-- the end of a trace from k: the corrections told lead to the number told, and its trade has the standing told, which is live or broken
pub record Ends (h : List Msg) (k : ℕ) (e : End) : Type 0 where
  pub leads : Leads h e.2 k e.0
  pub stands : (t : Trade) × (made_trade h e.0 ≡ Some t) × (t.standing ≡ e.1)
  pub last : (n : ℕ) → e.1 ≢ Corrected n

-- the laws of the trace: r is its answer at the moment m, for the match number k
pub record TraceLaws (m : Moment) (k : ℕ) (r : Option End) : Type 0 where
  -- there is an answer exactly if a trade was made under the number: no walk meets its bound
  pub answered : is_some r ≡ is_some (made_trade (history m) k)
  -- and it is the end of the corrections
  pub ends : (e : End) → r ≡ Some e → Ends (history m) k e

-- all of them, for every moment of every run
pub record Laws : Type 0 where
  pub of_stock : (m : Moment) (l : ℕ) → StockLaws m l (stock (book_of m) l 0)
  pub of_quote : (m : Moment) (l : ℕ) → QuoteLaws m l (quote (book_of m) l)
  pub of_trace : (m : Moment) (k : ℕ) → TraceLaws m k (trace (book_of m).trades k)
