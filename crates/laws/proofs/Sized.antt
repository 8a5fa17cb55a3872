-- Orders, trades and sums stay small, so no sum of the book ever stops short.
use Rattle.std.proofs.Common.{◌≡◌, ℕ, ◌+◌, ◌-◌, ◌*◌, ◌<◌, ◌≤◌, Bool, true, false, cond, eqb, List, Some, None, Option, sym, refl, ap, ◌∙◌, subst, inl, inr, le_trans, mul-le-mul_left, arith}
use Rattle.std.proofs.lemmas.Bool.{ne_eqb, cases_Bool}
use Rattle.std.proofs.lemmas.Bool.Decides.{nat_tests, leb_tells}
use Rattle.store.specs.Held.{full, at, or_else, write, Rising}
use Rattle.store.specs.Sums.{sum}
use Rattle.store.proofs.Maps.{at-write, from-write, sum-write, all-write, sum_below, sum_kept, length-sum}
use Rattle.book.specs.declared.value.Order.{Order}
use Rattle.book.specs.declared.value.Standing.TheVariants.{Broken, Corrected}
use Rattle.book.specs.declared.value.Trade.{Trade}
use Rattle.book.specs.Book.{Book, fresh}
use Rattle.book.specs.Message.{Msg, says, events, lists, acts, restricts, adds, executes, cancels, deletes, replaces, corrects, breaks, foreign}
use Rattle.book.specs.Trades.{is_live}
use Rattle.laws.specs.History.{locate_of, is_event, story, less, renewed, executed_of, standing_as}
use Rattle.laws.proofs.After.{stepped, sums_after, stock_after, orders_after, trades_after, after}
use Rattle.laws.proofs.Accepted.{Passed}
use Rattle.laws.proofs.Exact.{Small, same_added, same_executed, same_cancelled, same_deleted, same_replaced, same_broken, same_corrected}
use Rattle.laws.proofs.Figures.{Figure, live_at}
use Rattle.laws.proofs.Fitting.{Within}
use Rattle.laws.proofs.Own.{less_one}
use Rattle.laws.proofs.Readings.{no_stock, no_order, no_trade, sums, order, trade, trades_of}
use Rattle.laws.proofs.Stands.{Stands, StepsOn, exactly, found}

abbrev pub count : {V : Type 0} → List (ℕ × V) → ℕ
count ps = sum (λ _. 1) ps

abbrev OrdersModest : ℕ → List (ℕ × Order) → Type 0
OrdersModest top os = ((r : ℕ) (o : Order) → at os r ≡ Some o → Within o.shares o.price) × (count os ≤ top)

-- of c trades, each has gone through fewer than c corrections
abbrev Modest : ℕ → Trade → Type 0
Modest c t = Within t.shares t.price × (t.step < c)

abbrev TradesModest : ℕ → List (ℕ × Trade) → Type 0
TradesModest top ts = ((k : ℕ) (t : Trade) → at ts k ≡ Some t → Modest (count ts) t) × (count ts ≤ top)

pub record Sized (b : Book) : Type 0 where
  pub few_orders : b.orders.places ≤ 65536
  pub few_trades : b.trades.places ≤ 65536
  pub orders : OrdersModest b.orders.places b.orders.pairs
  pub trades : TradesModest b.trades.places b.trades.pairs
  pub added : (l : ℕ) → (sums b l).added ≤ 1000000 * b.accepted

product_less : (p a b c : ℕ) → a ≤ b → p * b ≤ c → p * a ≤ c
product_less p a b c h k = le_trans (mul-le-mul_left p h) k

modest_less : (o : Order) (s : ℕ) → Within o.shares o.price → (v : Order) → less o s ≡ Some v → Within v.shares v.price
modest_less o s m v e =
    elim (leb_tells o.shares s) [
      | inl g ↦ let n : None ≡ Some v = rw g.0 at e in let z : ◌≡◌ {A = ℕ} 0 1 = cc in absurd (omega arith)
      | inr g ↦
          let q = ap (or_else no_order) (rw g.0 at e) in
          subst (λ (y : Order). Within y.shares y.price) q (omega (arith, m.0), product_less o.price (o.shares - s) o.shares 100000000000000 (omega arith) m.1)
    ]

module _ (top : ℕ) (os : List (ℕ × Order)) (f : Rising os) (m : OrdersModest top os) where
  modest_put : (r : ℕ) (o : Order) → at os r ≡ None → count os < top → Within o.shares o.price → OrdersModest top (write os r (Some o))
  modest_put r o e h k =
      let c = rw e at (sum-write (λ _. 1) 0 os f r (Some o)) in
      (all-write (λ (y : Order). Within y.shares y.price) os f r (Some o) m.0 (λ v q. subst (λ (y : Order). Within y.shares y.price) (ap (or_else no_order) q) k), omega arith)

  modest_lower : (r : ℕ) (o : Order) (s : ℕ) → at os r ≡ Some o → OrdersModest top (write os r (less o s))
  modest_lower r o s e =
      let c = rw e at (sum-write (λ _. 1) 0 os f r (less o s)) in
      (all-write (λ (y : Order). Within y.shares y.price) os f r (less o s) m.0 (modest_less o s (m.0 r o e)), omega (arith, c, less_one o s, m.1))

  modest_out : (r : ℕ) (o : Order) → at os r ≡ Some o → OrdersModest top (write os r None) × (count (write os r None) < top)
  modest_out r o e =
      let c = rw e at (sum-write (λ _. 1) 0 os f r None) in
      let d = m.1 in
      ((all-write (λ (y : Order). Within y.shares y.price) os f r None m.0 (λ v q. (let z : ◌≡◌ {A = ℕ} 0 1 = cc in absurd (omega arith))), omega arith), omega arith)

module _ (top : ℕ) (ts : List (ℕ × Trade)) (f : Rising ts) (m : TradesModest top ts) where
  modest_made : (k : ℕ) (t : Trade) → at ts k ≡ None → count ts < top → Modest (count ts + 1) t →
      TradesModest top (write ts k (Some t)) × (count (write ts k (Some t)) ≡ count ts + 1)
  modest_made k t e h i =
      let c : count (write ts k (Some t)) ≡ count ts + 1 = omega (arith, rw e at (sum-write (λ _. 1) 0 ts f k (Some t))) in
      let older : (j : ℕ) (u : Trade) → at ts j ≡ Some u → Modest (count (write ts k (Some t))) u = λ j u q. ((m.0 j u q).0, omega (arith, (m.0 j u q).1, c)) in
      let newer : (u : Trade) → Some t ≡ Some u → Modest (count (write ts k (Some t))) u = λ u q. subst (Modest (count (write ts k (Some t)))) (ap (or_else no_trade) q) (i.0, omega (arith, i.1, c)) in
      ((all-write (Modest (count (write ts k (Some t)))) ts f k (Some t) older newer, omega arith), c)

  modest_ended : (k : ℕ) (t u : Trade) → at ts k ≡ Some t → Modest (count ts) u → TradesModest top (write ts k (Some u))
  modest_ended k t u e i =
      let c : count (write ts k (Some u)) ≡ count ts = omega (arith, rw e at (sum-write (λ _. 1) 0 ts f k (Some u))) in
      let d = m.1 in
      let older : (j : ℕ) (v : Trade) → at ts j ≡ Some v → Modest (count (write ts k (Some u))) v = λ j v q. ((m.0 j v q).0, omega (arith, (m.0 j v q).1, c)) in
      let newer : (v : Trade) → Some u ≡ Some v → Modest (count (write ts k (Some u))) v = λ v q. subst (Modest (count (write ts k (Some u)))) (ap (or_else no_trade) q) (i.0, omega (arith, i.1, c)) in
      (all-write (Modest (count (write ts k (Some u)))) ts f k (Some u) older newer, omega arith)

pub sized_fresh : (s o m : ℕ) → o ≤ 65536 → m ≤ 65536 → Sized (fresh s o m)
sized_fresh s o m few_orders few_trades =
    record { few_orders = few_orders; few_trades = few_trades; orders = ((λ r o e. cc_none e), omega arith); trades = ((λ k t e. cc_none e), omega arith); added = λ l. omega arith }
  where
    cc_none : {V : Type 0} {P : Type 0} {v : V} → None ≡ Some v → P
    cc_none e = let z : ◌≡◌ {A = ℕ} 0 1 = cc in absurd (omega arith)

module _ (b : Book) (h : List Msg) (z : Stands b h) (n : Sized b) where
  order_room : full b.orders ≡ false → count b.orders.pairs < b.orders.places
  order_room e = let l = length-sum b.orders.pairs in let c = n.orders.1 in grind (arith, nat_tests)

  trade_room : full b.trades ≡ false → count b.trades.pairs < b.trades.places
  trade_room e = let l = length-sum b.trades.pairs in let c = n.trades.1 in grind (arith, nat_tests)

  pub steps_on : StepsOn b.trades.pairs
  steps_on k t e =
      let c = (n.trades.0 k t e).1 in
      let d = n.trades.1 in
      let f = n.few_trades in
      omega arith

  orders_sized : (m : Msg) → Passed b m → OrdersModest b.orders.places (orders_after b m)
  orders_sized (says l stamp (events v)) a = n.orders
  orders_sized (says l stamp (lists v)) a = n.orders
  orders_sized (says l stamp (acts y v)) a = n.orders
  orders_sized (says l stamp (restricts y v)) a = n.orders
  orders_sized (says l stamp (adds r by s p y)) a =
      modest_put b.orders.places b.orders.pairs z.orders_rise n.orders r (record { locate = l; side = by; price = p; shares = s }) a.free
      (order_room a.room) a.fits
  orders_sized (says l stamp (executes r s k)) a = modest_lower b.orders.places b.orders.pairs z.orders_rise n.orders r (order b r) s a.lowers.names.there
  orders_sized (says l stamp (cancels r s)) a = modest_lower b.orders.places b.orders.pairs z.orders_rise n.orders r (order b r) s a.names.there
  orders_sized (says l stamp (deletes r)) a = (modest_out b.orders.places b.orders.pairs z.orders_rise n.orders r (order b r) a.there).0
  orders_sized (says l stamp (replaces r m s p)) a =
      let out = write b.orders.pairs r None in
      let rise : Rising out = from-write 0 b.orders.pairs z.orders_rise r None (omega arith) in
      let d = modest_out b.orders.places b.orders.pairs z.orders_rise n.orders r (order b r) a.names.there in
      let free : at out m ≡ None = at-write 0 b.orders.pairs z.orders_rise r None m ∙ ap (cond (eqb r m) None) a.free ∙ either (eqb r m) in
      modest_put b.orders.places out rise d.0 m (renewed s p (order b r)) free d.1 a.fits
    where
      either : (t : Bool) → cond {A = Option Order} t None None ≡ None
      either true = refl
      either false = refl
  orders_sized (says l stamp (corrects k m s p)) a = n.orders
  orders_sized (says l stamp (breaks k)) a = n.orders
  orders_sized (says l stamp foreign) a = n.orders

  trades_sized : (m : Msg) → Passed b m → TradesModest b.trades.places (trades_after b m)
  trades_sized (says l stamp (events v)) a = n.trades
  trades_sized (says l stamp (lists v)) a = n.trades
  trades_sized (says l stamp (acts y v)) a = n.trades
  trades_sized (says l stamp (restricts y v)) a = n.trades
  trades_sized (says l stamp (adds r by s p y)) a = n.trades
  trades_sized (says l stamp (executes r s k)) a =
      let c = a.lowers in
      let o = n.orders.0 r (order b r) c.names.there in
      (modest_made b.trades.places b.trades.pairs z.trades_rise n.trades k (executed_of s (order b r)) a.unused.free (trade_room a.unused.room)
      ((c.fits, product_less (order b r).price s (order b r).shares 100000000000000 c.enough o.1), omega arith)).0
  trades_sized (says l stamp (cancels r s)) a = n.trades
  trades_sized (says l stamp (deletes r)) a = n.trades
  trades_sized (says l stamp (replaces r m s p)) a = n.trades
  trades_sized (says l stamp (corrects k m s p)) a =
      let t = trade b k in
      let new = stepped s p t in
      let old = standing_as (Corrected m) t in
      let there = a.names.there in
      let mid = write b.trades.pairs m (Some new) in
      let rise : Rising mid = from-write 0 b.trades.pairs z.trades_rise m (Some new) (omega arith) in
      let q = n.trades.0 k t there in
      let lower = q.1 in
      let d = modest_made b.trades.places b.trades.pairs z.trades_rise n.trades m new a.unused.free (trade_room a.unused.room) (a.fits, omega arith) in
      let more = d.1 in
      let apart : m ≡ k → ⊥ = λ i. apart_by t there (sym (ap (at b.trades.pairs) i) ∙ a.unused.free) in
      let still : at mid k ≡ Some t = at-write 0 b.trades.pairs z.trades_rise m (Some new) k ∙ rw (ne_eqb m k apart) there in
      modest_ended b.trades.places mid rise d.0 k t old still (q.0, omega arith)
    where
      apart_by : {x : Option Trade} (t : Trade) → x ≡ Some t → x ≡ None → ⊥
      apart_by t p q = let w : ◌≡◌ {A = ℕ} 0 1 = cc in omega arith
  trades_sized (says l stamp (breaks k)) a =
      modest_ended b.trades.places b.trades.pairs z.trades_rise n.trades k (trade b k) (standing_as Broken (trade b k)) a.there (n.trades.0 k (trade b k) a.there)
  trades_sized (says l stamp foreign) a = n.trades

  added_here : (m : Msg) → Passed b m → (sums_after b m).added ≤ 1000000 * (b.accepted + 1)
  added_here (says l stamp (events v)) a = omega arith
  added_here (says l stamp (lists v)) a = omega (arith, n.added l)
  added_here (says l stamp (acts y v)) a = omega (arith, n.added l)
  added_here (says l stamp (restricts y v)) a = omega (arith, n.added l)
  added_here (says l stamp (adds r by s p y)) a = omega (arith, n.added l, a.fits.0)
  added_here (says l stamp (executes r s k)) a = omega (arith, n.added l)
  added_here (says l stamp (cancels r s)) a = omega (arith, n.added l)
  added_here (says l stamp (deletes r)) a = omega (arith, n.added l)
  added_here (says l stamp (replaces r m s p)) a = omega (arith, n.added l, a.fits.0)
  added_here (says l stamp (corrects k m s p)) a = omega (arith, n.added l)
  added_here (says l stamp (breaks k)) a = omega (arith, n.added l)
  added_here (says l stamp foreign) a = omega arith

  added_there : (m : Msg) → Passed b m → (l : ℕ) → (sums (after b m) l).added ≤ 1000000 * (b.accepted + 1)
  added_there m a l =
      elim (cases_Bool (is_event m)) [
        | inl e ↦ rw (e, sums) (omega (arith, n.added l))
        | inr e ↦ rw (found b h z m e l, sums)
            (elim (eqb (locate_of m) l) as (λ t. (or_else no_stock (cond t (Some (stock_after b m)) (at b.stocks.pairs l))).sums.added ≤ 1000000 * (b.accepted + 1)) [
              | true ↦ added_here m a
              | false ↦ omega (arith, n.added l)
            ])
      ]

  pub sized_step : (m : Msg) → Passed b m → Sized (after b m)
  sized_step m a =
      record {
        few_orders = n.few_orders;
        few_trades = n.few_trades;
        orders = orders_sized m a;
        trades = trades_sized m a;
        added = λ l. added_there m a l;
      }

  figure_small : (g : ℕ → ℕ → ℕ) (x c l : ℕ) → ((k : ℕ) (t : Trade) → at b.trades.pairs k ≡ Some t → g t.shares t.price ≤ c) →
      Figure g x (trades_of b l) (story l h) → x ≤ c * count b.trades.pairs
  figure_small g x c l each f =
      le_trans (subst (λ y. y ≤ sum (live_at g) b.trades.pairs) (sym f.sums) (sum_kept (live_at g) (λ t. eqb t.locate l) b.trades.pairs))
      (sum_below (live_at g) c 0 b.trades.pairs z.trades_rise below)
    where
      below : (k : ℕ) (t : Trade) → at b.trades.pairs k ≡ Some t → live_at g t ≤ c
      below k t e =
          let d = each k t e in
          elim (is_live t.standing) as (λ v. cond v (g t.shares t.price) 0 ≤ c) [ true ↦ d | false ↦ omega arith ]

  pub small : b.accepted ≤ 1000000000 → (l : ℕ) → Small (sums b l)
  small day l =
      let w = z.own l in
      let c = n.trades.1 in
      let d = n.few_trades in
      let s = figure_small (λ s p. 1) (sums b l).live_trades 1 l (λ k t e. omega arith) w.trades.lives in
      let v = figure_small (λ s p. s) (sums b l).live_volume 1000000 l (λ k t e. (n.trades.0 k t e).0.0) w.trades.volumes in
      let u = figure_small (λ s p. p * s) (sums b l).turnover 100000000000000 l (λ k t e. (n.trades.0 k t e).0.1) w.trades.turnovers in
      record {
        added = omega (arith, n.added l);
        balance = w.orders.balance;
        open_orders = omega (arith, w.orders.held.orders, sum_kept (λ _. 1) (λ (o : Order). eqb o.locate l) b.orders.pairs, n.orders.1, n.few_orders);
        live_trades = omega arith;
        live_volume = omega arith;
        turnover = omega arith;
      }

  -- so the book's sums are exact
  pub exact_step : b.accepted < 1000000000 → (m : Msg) → Passed b m → sums_after b m ≡ exactly b m
  exact_step day (says l stamp (events v)) a = refl
  exact_step day (says l stamp (lists v)) a = refl
  exact_step day (says l stamp (acts y v)) a = refl
  exact_step day (says l stamp (restricts y v)) a = refl
  exact_step day (says l stamp (adds r by s p y)) a = same_added (sums b l) (small (omega arith) l) s a.fits.0
  exact_step day (says l stamp (executes r s k)) a =
      let c = a.lowers in
      let o = n.orders.0 r (order b r) c.names.there in
      same_executed (sums b l) (small (omega arith) l) (order b r) s c.fits (product_less (order b r).price s (order b r).shares 100000000000000 c.enough o.1)
  exact_step day (says l stamp (cancels r s)) a = same_cancelled (sums b l) (small (omega arith) l) (order b r) s a.fits
  exact_step day (says l stamp (deletes r)) a = same_deleted (sums b l) (small (omega arith) l) (order b r) (n.orders.0 r (order b r) a.there).0
  exact_step day (says l stamp (replaces r m s p)) a =
      same_replaced (sums b l) (small (omega arith) l) (order b r) s (n.orders.0 r (order b r) a.names.there).0 a.fits.0
  exact_step day (says l stamp (corrects k m s p)) a =
      same_corrected (sums b l) (small (omega arith) l) (trade b k) s p (n.trades.0 k (trade b k) a.names.there).0.1 a.fits.0 a.fits.1
  exact_step day (says l stamp (breaks k)) a = same_broken (sums b l) (small (omega arith) l) (trade b k) (n.trades.0 k (trade b k) a.there).0.1
  exact_step day (says l stamp foreign) a = refl
