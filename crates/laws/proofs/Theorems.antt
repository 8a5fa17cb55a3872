-- The laws of every run, proved.
use Rattle.std.proofs.Common.{◌≡◌, ℕ, ◌+◌, ◌*◌, ◌<◌, ◌≤◌, List, length, is_some, Some, None, Ok, Option, sym, refl, ap, ◌∙◌, subst, arith}
use Rattle.std.specs.Option.{ok_or}
use Rattle.store.specs.Held.{at, or_else}
use Rattle.store.specs.Sums.{sum}
use Rattle.store.proofs.Maps.{same, length-sum}
use Rattle.book.specs.declared.fault.BookFault.TheVariants.{UnknownLocate}
use Rattle.book.specs.declared.value.Order.{Order}
use Rattle.book.specs.declared.value.Side.TheVariants.{Buy, Sell}
use Rattle.book.specs.declared.value.Stock.{Stock}
use Rattle.book.specs.declared.value.Sums.{Sums}
use Rattle.book.specs.declared.value.Trade.{Trade}
use Rattle.book.specs.Book.{Book, then}
use Rattle.book.specs.Book as book
use Rattle.book.specs.Message.{Msg}
use Rattle.book.specs.Quote.{quote, quoted}
use Rattle.book.specs.Trace.{trace}
use Rattle.laws.specs.History.{story, adding, executing, removing, trading, breaking, correcting_from, correcting_to}
use Rattle.laws.specs.Laws.{Since, earlier, between, sums_at, SumsStand, Exact, Stores, StockLaws, QuoteLaws, TraceLaws, Laws}
use Rattle.laws.specs.Runs.{Moment, book_of, history}
use Rattle.laws.proofs.Figures.{Figure}
use Rattle.laws.proofs.Growth.{Local, flow_local, dealt_local, summed, sums_are}
use Rattle.laws.proofs.Own.{whole, one}
use Rattle.laws.proofs.Readings.{no_stock, stock, sums, orders_of, trades_of}
use Rattle.laws.proofs.Runs.{reached_at}
use Rattle.laws.proofs.Sized.{count, small}
use Rattle.laws.proofs.Stands.{Own, moved, told, listing_of, state_of, restriction_of, stamp_told}
use Rattle.laws.proofs.Traces.{walk_answers, walk_ends}

-- a stock at a moment, by its own messages
own_at : (m : Moment) (l : ℕ) → Own (sums (book_of m) l) (orders_of (book_of m) l) (trades_of (book_of m) l) (story l (history m))
own_at m l = (reached_at m).stands.own l

module _ (m : Moment) (l : ℕ) (e : Since m) where
  -- a figure of the live trades, at this moment and the earlier one
  figure_grows : (g : ℕ → ℕ → ℕ) (x y : ℕ) → Figure g x (trades_of (book_of m) l) (story l (history m)) →
      Figure g y (trades_of (book_of (earlier m e)) l) (story l (history (earlier m e))) →
      (x' y' : ℕ) → x ≡ x' → y ≡ y' →
      x' + between m e l (breaking g) + between m e l (correcting_from g) ≡ y' + between m e l (trading g) + between m e l (correcting_to g)
  figure_grows g x y z a x' y' p q =
      omega (
        arith,
        a.balance,
        z.balance,
        p,
        q,
        summed (trading g) (dealt_local g (λ t. t.0)) m l e,
        summed (breaking g) (dealt_local g (λ t. t.1)) m l e,
        summed (correcting_from g) (dealt_local g (λ t. t.2)) m l e,
        summed (correcting_to g) (dealt_local g (λ t. t.3)) m l e,
      )

  -- a running sum, at this moment and the earlier one
  counter_grows : (f : List Msg → Msg → ℕ) → Local f → (x y : ℕ) → x ≡ whole f (story l (history m)) → y ≡ whole f (story l (history (earlier m e))) →
      (x' y' : ℕ) → x ≡ x' → y ≡ y' → x' ≡ y' + between m e l f
  counter_grows f same x y z a x' y' p q = omega (arith, z, a, p, q, summed f same m l e)

-- a stock's sums, its open orders and its trades follow from its messages
decided : (s s' : Sums) (os os' : List (ℕ × Order)) (ts ts' : List (ℕ × Trade)) (h : List Msg) →
    Own s os ts h → Own s' os' ts' h → (s ≡ s') × (os ≡ os')
decided s s' os os' ts ts' h w w' =
    let o = w.orders in
    let o' = w'.orders in
    let t = w.trades in
    let t' = w'.trades in
    let e : os ≡ os' = same 0 0 os os' o.held.rise o'.held.rise (λ r. o.held.looks r ∙ sym (o'.held.looks r)) in
    let added : s.added ≡ s'.added = o.added ∙ sym o'.added in
    let executed : s.executed ≡ s'.executed = o.executed ∙ sym o'.executed in
    let removed : s.removed ≡ s'.removed = o.removed ∙ sym o'.removed in
    let shares : s.open_shares ≡ s'.open_shares = omega (arith, o.balance, o'.balance) in
    let orders : s.open_orders ≡ s'.open_orders = o.held.orders ∙ ap (sum one) e ∙ sym o'.held.orders in
    let live_trades : s.live_trades ≡ s'.live_trades = omega (arith, t.lives.balance, t'.lives.balance) in
    let live_volume : s.live_volume ≡ s'.live_volume = omega (arith, t.volumes.balance, t'.volumes.balance) in
    let turnover : s.turnover ≡ s'.turnover = omega (arith, t.turnovers.balance, t'.turnovers.balance) in
    ((λ i. record { added = added i; executed = executed i; removed = removed i; open_shares = shares i; open_orders = orders i; live_trades = live_trades i; live_volume = live_volume i; turnover = turnover i }), e)

filled : (x y : Option Stock) → is_some x ≡ is_some y → or_else no_stock x ≡ or_else no_stock y → x ≡ y
filled None None e q = refl
filled None (Some t) e q = cc
filled (Some s) None e q = cc
filled (Some s) (Some t) e q = ap Some q

module _ (m n : Moment) (l : ℕ) (e : story l (history m) ≡ story l (history n)) where
  alike : (sums (book_of m) l ≡ sums (book_of n) l) × (orders_of (book_of m) l ≡ orders_of (book_of n) l)
  alike =
      decided (sums (book_of m) l) (sums (book_of n) l) (orders_of (book_of m) l) (orders_of (book_of n) l) (trades_of (book_of m) l) (trades_of (book_of n) l)
      (story l (history n)) (moved refl refl refl e (own_at m l)) (own_at n l)

  same_found : at (book_of m).stocks.pairs l ≡ at (book_of n).stocks.pairs l
  same_found =
      let z = (reached_at m).stands in
      let y = (reached_at n).stands in
      let listing : (stock (book_of m) l).listing ≡ (stock (book_of n) l).listing = z.listing l ∙ ap listing_of e ∙ sym (y.listing l) in
      let state : (stock (book_of m) l).state ≡ (stock (book_of n) l).state = z.state l ∙ ap state_of e ∙ sym (y.state l) in
      let restriction : (stock (book_of m) l).restriction ≡ (stock (book_of n) l).restriction = z.restriction l ∙ ap restriction_of e ∙ sym (y.restriction l) in
      let stamp : (stock (book_of m) l).stamp ≡ (stock (book_of n) l).stamp = z.stamp l ∙ ap stamp_told e ∙ sym (y.stamp l) in
      let facts : stock (book_of m) l ≡ stock (book_of n) l = λ i. record { listing = listing i; state = state i; restriction = restriction i; stamp = stamp i; sums = alike.0 i } in
      filled (at (book_of m).stocks.pairs l) (at (book_of n).stocks.pairs l) (z.known l ∙ ap told e ∙ sym (y.known l)) facts

  same_stock : book.stock (book_of m) l 0 ≡ book.stock (book_of n) l 0
  same_stock = ap (λ o. ok_or o (UnknownLocate 0)) same_found

  same_quote : quote (book_of m) l ≡ quote (book_of n) l
  same_quote = λ i. then (same_stock i) (λ _. Ok (record { bid = quoted Buy (alike.1 i); offer = quoted Sell (alike.1 i) }))

-- the laws on the book's sums
module _ (m : Moment) (l : ℕ) where
  stand : SumsStand m l (sums (book_of m) l)
  stand =
      let w = own_at m l in
      record {
        open_shares = w.orders.held.shares;
        open_orders = w.orders.held.orders ∙ sym (length-sum (orders_of (book_of m) l));
        live_trades = w.trades.lives.sums;
        live_volume = w.trades.volumes.sums;
        turnover = w.trades.turnovers.sums;
      }

  never_stop : Exact m (sums (book_of m) l)
  never_stop =
      let q = reached_at m in
      let c = q.counted in
      let a = q.sized.added l in
      let d = q.day in
      let s = small (book_of m) (history m) q.stands q.sized d l in
      let balance = s.balance in
      record {
        messages = omega arith;
        added = omega arith;
        executed = omega arith;
        removed = omega arith;
        open_shares = omega arith;
        open_orders = s.open_orders;
        live_trades = s.live_trades;
        live_volume = s.live_volume;
        turnover = s.turnover;
      }

pub stores_hold : (m : Moment) → Stores m
stores_hold m =
    let q = reached_at m in
    let z = q.stands in
    record {
      stocks = z.listed;
      orders = q.everything.1.orders.held.looks;
      trades = q.everything.1.trades.looks;
      once = (z.stocks_rise, z.orders_rise, z.trades_rise);
    }

-- the stock reading
pub stock_laws : (m : Moment) (l : ℕ) → StockLaws m l (book.stock (book_of m) l 0)
stock_laws m l =
    let here = sums_are (book_of m) l in
    let there : (e : Since m) → sums (book_of (earlier m e)) l ≡ sums_at (earlier m e) l = λ e. sums_are (book_of (earlier m e)) l in
    let w = own_at m l in
    let old : (e : Since m) → Own (sums (book_of (earlier m e)) l) (orders_of (book_of (earlier m e)) l) (trades_of (book_of (earlier m e)) l) (story l (history (earlier m e))) = λ e. own_at (earlier m e) l in
    record {
      open_shares_grow = λ e.
          let a = (old e).orders in
          let z = w.orders in
          let p : (sums (book_of m) l).open_shares ≡ (sums_at m l).open_shares = ap (λ t. t.open_shares) here in
          let q : (sums (book_of (earlier m e)) l).open_shares ≡ (sums_at (earlier m e) l).open_shares = ap (λ t. t.open_shares) (there e) in
          omega (
            arith,
            p,
            q,
            a.added,
            a.executed,
            a.removed,
            a.balance,
            z.added,
            z.executed,
            z.removed,
            z.balance,
            summed adding (flow_local (λ t. t.0)) m l e,
            summed executing (flow_local (λ t. t.1)) m l e,
            summed removing (flow_local (λ t. t.2)) m l e,
          );
      volume_grows = λ e. figure_grows m l e (λ s p. s) (sums (book_of m) l).live_volume (sums (book_of (earlier m e)) l).live_volume w.trades.volumes (old e).trades.volumes
          (sums_at m l).live_volume (sums_at (earlier m e) l).live_volume (ap (λ t. t.live_volume) here) (ap (λ t. t.live_volume) (there e));
      turnover_grows = λ e. figure_grows m l e (λ s p. p * s) (sums (book_of m) l).turnover (sums (book_of (earlier m e)) l).turnover w.trades.turnovers (old e).trades.turnovers
          (sums_at m l).turnover (sums_at (earlier m e) l).turnover (ap (λ t. t.turnover) here) (ap (λ t. t.turnover) (there e));
      added_grows = λ e. counter_grows m l e adding (flow_local (λ t. t.0)) (sums (book_of m) l).added (sums (book_of (earlier m e)) l).added w.orders.added (old e).orders.added
          (sums_at m l).added (sums_at (earlier m e) l).added (ap (λ t. t.added) here) (ap (λ t. t.added) (there e));
      executed_grows = λ e. counter_grows m l e executing (flow_local (λ t. t.1)) (sums (book_of m) l).executed (sums (book_of (earlier m e)) l).executed w.orders.executed (old e).orders.executed
          (sums_at m l).executed (sums_at (earlier m e) l).executed (ap (λ t. t.executed) here) (ap (λ t. t.executed) (there e));
      removed_grows = λ e. counter_grows m l e removing (flow_local (λ t. t.2)) (sums (book_of m) l).removed (sums (book_of (earlier m e)) l).removed w.orders.removed (old e).orders.removed
          (sums_at m l).removed (sums_at (earlier m e) l).removed (ap (λ t. t.removed) here) (ap (λ t. t.removed) (there e));
      sums_stand = subst (SumsStand m l) here (stand m l);
      apart = λ n. same_stock m n l;
      exact = subst (Exact m) here (never_stop m l);
      stores = stores_hold m;
    }

-- the same, of the reading of any book that a run comes to
pub stock_laws_of : (b : Book) (l : ℕ) (m : Moment) → book_of m ≡ b → StockLaws m l (book.stock b l 0)
stock_laws_of b l m e = subst (λ c. StockLaws m l (book.stock c l 0)) e (stock_laws m l)

-- the quote
pub quote_laws : (m : Moment) (l : ℕ) → QuoteLaws m l (quote (book_of m) l)
quote_laws m l = record { apart = λ n. same_quote m n l }

pub quote_laws_of : (b : Book) (l : ℕ) (m : Moment) → book_of m ≡ b → QuoteLaws m l (quote b l)
quote_laws_of b l m e = subst (λ c. QuoteLaws m l (quote c l)) e (quote_laws m l)

-- the trace
pub trace_laws : (m : Moment) (k : ℕ) → TraceLaws m k (trace (book_of m).trades k)
trace_laws m k =
    let b = book_of m in
    let ts = b.trades.pairs in
    let q = reached_at m in
    let looks = q.everything.1.trades.looks in
    let low : (j : ℕ) (t : Trade) → at ts j ≡ Some t → t.step < count ts = λ j t e. (q.sized.trades.0 j t e).1 in
    let all : count ts ≤ length ts = omega (arith, length-sum ts) in
    record {
      answered = walk_answers b.trades (history m) looks q.chained low (length ts) k all (at ts k) refl;
      ends = walk_ends b.trades (history m) looks q.chained low (length ts) k all (at ts k) refl;
    }

pub trace_laws_of : (b : Book) (k : ℕ) (m : Moment) → book_of m ≡ b → TraceLaws m k (trace b.trades k)
trace_laws_of b k m e = subst (λ c. TraceLaws m k (trace c.trades k)) e (trace_laws m k)

pub laws : Laws
laws = record { of_stock = stock_laws; of_quote = quote_laws; of_trace = trace_laws }
