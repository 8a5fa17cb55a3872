-- The book stands as its history says, for each stock, after each accepted message.
use Rattle.std.proofs.Common.{◌≡◌, ℕ, ◌+◌, Bool, true, false, cond, eqb, List, [], ◌∷◌, is_some, Some, None, Option, sym, refl, ap, ◌∙◌, subst, subst₂, inl, inr, arith}
use mathlib.Core.Path.{transport}
use Rattle.std.proofs.lemmas.Bool.{eq-eqb}
use Rattle.std.proofs.lemmas.Bool.Decides.{eqb_tells, leb_tells}
use Rattle.store.specs.Held.{at, or_else, write, Rising}
use Rattle.store.proofs.Maps.{at-write, from-write, Of, own-write, other-write, own_at, of_write}
use Rattle.book.specs.declared.value.Listing.{Listing}
use Rattle.book.specs.declared.value.Order.{Order}
use Rattle.book.specs.declared.value.ShortSale.{ShortSale}
use Rattle.book.specs.declared.value.Standing.TheVariants.{Broken, Corrected}
use Rattle.book.specs.declared.value.Stock.{Stock}
use Rattle.book.specs.declared.value.Sums.{Sums}
use Rattle.book.specs.declared.value.Trade.{Trade}
use Rattle.book.specs.declared.value.TradingState.{TradingState}
use Rattle.book.specs.declared.value.TradingState.TheVariants.{Halted}
use Rattle.book.specs.Book.{Book}
use Rattle.book.specs.Message.{Msg, says, events, lists, acts, restricts, adds, executes, cancels, deletes, replaces, corrects, breaks, foreign}
use Rattle.book.specs.Quote as quote
use Rattle.book.specs.Sums.{◌⊕◌, nothing}
use Rattle.laws.specs.History.{locate_of, is_event, story, listed, less, renewed, executed_of, standing_as, corrected_to}
use Rattle.laws.specs.Laws as laws
use Rattle.laws.proofs.After.{stepped, listing_by, state_by, restriction_by, stamp_of, sums_after, stock_after, orders_after, trades_after, after}
use Rattle.laws.proofs.Accepted.{Known, Passed}
use Rattle.laws.proofs.Exact as exact
use Rattle.laws.proofs.Figures.{Trades, trades_quiet, trades_executes, trades_breaks, trades_corrects}
use Rattle.laws.proofs.Own.{Orders, orders_quiet, orders_adds, orders_executes, orders_cancels, orders_deletes, orders_replaces, orders_corrects, orders_breaks}
use Rattle.laws.proofs.Readings.{no_stock, stock, sums, order, trade, orders_of, trades_of}

abbrev pub told : List Msg → Bool
told [] = false
told (m ∷ h) = true

-- what a stock's messages tell of it
abbrev pub listing_of : List Msg → Listing
listing_of [] = no_stock.listing
listing_of (m ∷ h) = listing_by m (listing_of h)

abbrev pub state_of : List Msg → TradingState
state_of [] = Halted
state_of (m ∷ h) = state_by m (state_of h)

abbrev pub restriction_of : List Msg → Option ShortSale
restriction_of [] = None
restriction_of (m ∷ h) = restriction_by m (restriction_of h)

abbrev pub stamp_told : List Msg → ℕ
stamp_told [] = 0
stamp_told (m ∷ h) = stamp_of m

-- a stock's sums, orders and trades, by its messages
pub record Own (s : Sums) (os : List (ℕ × Order)) (ts : List (ℕ × Trade)) (h : List Msg) : Type 0 where
  pub orders : Orders s os h
  pub trades : Trades s.live_trades s.live_volume s.turnover ts h

pub record Stands (b : Book) (h : List Msg) : Type 0 where
  pub stocks_rise : Rising b.stocks.pairs
  pub orders_rise : Rising b.orders.pairs
  pub trades_rise : Rising b.trades.pairs
  pub listed : (l : ℕ) → is_some (at b.stocks.pairs l) ≡ listed h l
  pub known : (l : ℕ) → is_some (at b.stocks.pairs l) ≡ told (story l h)
  pub listing : (l : ℕ) → (stock b l).listing ≡ listing_of (story l h)
  pub state : (l : ℕ) → (stock b l).state ≡ state_of (story l h)
  pub restriction : (l : ℕ) → (stock b l).restriction ≡ restriction_of (story l h)
  pub stamp : (l : ℕ) → (stock b l).stamp ≡ stamp_told (story l h)
  pub own : (l : ℕ) → Own (sums b l) (orders_of b l) (trades_of b l) (story l h)

pub moved : {s s' : Sums} {os os' : List (ℕ × Order)} {ts ts' : List (ℕ × Trade)} {h h' : List Msg} →
    s ≡ s' → os ≡ os' → ts ≡ ts' → h ≡ h' → Own s os ts h → Own s' os' ts' h'
moved p q r u x = transport (λ i. Own (p i) (q i) (r i) (u i)) x

abbrev place_o : Order → ℕ
place_o o = o.locate

abbrev place_t : Trade → ℕ
place_t t = t.locate

less_of : (l : ℕ) (o : Order) (s : ℕ) → o.locate ≡ l → Of place_o l (less o s)
less_of l o s e = elim (leb_tells o.shares s) [ inl g ↦ rw g.0 tt | inr g ↦ rw g.0 e ]

-- what the message leaves of its stock, with sums that never stop
abbrev pub exactly : Book → Msg → Sums
exactly b (says l stamp (events v)) = nothing
exactly b (says l stamp (lists v)) = sums b l
exactly b (says l stamp (acts y v)) = sums b l
exactly b (says l stamp (restricts y v)) = sums b l
exactly b (says l stamp (adds r by s p y)) = exact.with_added (sums b l) s
exactly b (says l stamp (executes r s k)) = exact.with_executed (sums b l) (order b r) s
exactly b (says l stamp (cancels r s)) = exact.with_cancelled (sums b l) (order b r) s
exactly b (says l stamp (deletes r)) = exact.with_deleted (sums b l) (order b r)
exactly b (says l stamp (replaces r n s p)) = exact.with_added (exact.with_deleted (sums b l) (order b r)) s
exactly b (says l stamp (corrects k n s p)) = exact.with_corrected (sums b l) (trade b k) s p
exactly b (says l stamp (breaks k)) = exact.with_broken (sums b l) (trade b k)
exactly b (says l stamp foreign) = nothing

-- no trade's step is at the largest number
abbrev pub StepsOn : List (ℕ × Trade) → Type 0
StepsOn ts = (k : ℕ) (t : Trade) → at ts k ≡ Some t → t.step ⊕ 1 ≡ t.step + 1

-- so the trade that stands in for a corrected one is a step higher
pub steps_to : (s p : ℕ) (t : Trade) → t.step ⊕ 1 ≡ t.step + 1 → stepped s p t ≡ corrected_to s p t
steps_to s p t e = λ i. record { locate = t.locate; price = p; shares = s; step = e i; standing = (corrected_to s p t).standing }

module _ (b : Book) (h : List Msg) (z : Stands b h) where
  pub found : (m : Msg) → is_event m ≡ false → (l : ℕ) → at (after b m).stocks.pairs l ≡ cond (eqb (locate_of m) l) (Some (stock_after b m)) (at b.stocks.pairs l)
  found m n l =
      ap (λ t. at (cond t b.stocks.pairs (write b.stocks.pairs (locate_of m) (Some (stock_after b m)))) l) n
      ∙ at-write 0 b.stocks.pairs z.stocks_rise (locate_of m) (Some (stock_after b m)) l

  -- a message of a known stock makes no other stock known
  seen : (l : ℕ) → Known b l → (i : ℕ) → cond (eqb l i) true (is_some (at b.stocks.pairs i)) ≡ listed h i
  seen l k i =
      elim (eqb_tells l i) [
        | inl e ↦ rw e.0 (sym (ap is_some (sym (ap (at b.stocks.pairs) e.1) ∙ k)) ∙ z.listed i)
        | inr e ↦ rw e.0 (z.listed i)
      ]

  -- it is enough to see to the stock that the message names
  module _ (m : Msg) (n : is_event m ≡ false) where
    stock_here : stock (after b m) (locate_of m) ≡ stock_after b m
    stock_here =
        ap (or_else no_stock) (found m n (locate_of m)
        ∙ ap (λ t. cond t (Some (stock_after b m)) (at b.stocks.pairs (locate_of m))) (eq-eqb (locate_of m) (locate_of m) refl))

    stock_there : (l : ℕ) → eqb (locate_of m) l ≡ false → stock (after b m) l ≡ stock b l
    stock_there l e = ap (or_else no_stock) (found m n l ∙ ap (λ t. cond t (Some (stock_after b m)) (at b.stocks.pairs l)) e)

    story_here : story (locate_of m) (m ∷ h) ≡ m ∷ story (locate_of m) h
    story_here = rw (n, eq-eqb (locate_of m) (locate_of m) refl)

    story_there : (l : ℕ) → eqb (locate_of m) l ≡ false → story l (m ∷ h) ≡ story l h
    story_there l e = rw (n, e)

    -- what holds of the named stock, and held of the others, holds of each
    each : (P : Stock → List Msg → Type 0) → P (stock_after b m) (m ∷ story (locate_of m) h) → ((l : ℕ) → P (stock b l) (story l h)) →
        (l : ℕ) → P (stock (after b m) l) (story l (m ∷ h))
    each P new old l =
        elim (eqb_tells (locate_of m) l) [
          | inl e ↦ subst (λ i. P (stock (after b m) i) (story i (m ∷ h))) e.1 (subst₂ P (sym stock_here) (sym story_here) new)
          | inr e ↦ subst₂ P (sym (stock_there l e.0)) (sym (story_there l e.0)) (old l)
        ]

    placed : ((l : ℕ) → cond (eqb (locate_of m) l) true (is_some (at b.stocks.pairs l)) ≡ listed (m ∷ h) l) →
        Rising (orders_after b m) → Rising (trades_after b m) →
        ((i : ℕ) → (locate_of m ≡ i → ⊥) → quote.orders_of (orders_after b m) i ≡ orders_of b i) →
        ((i : ℕ) → (locate_of m ≡ i → ⊥) → laws.trades_of (trades_after b m) i ≡ trades_of b i) →
        Own (sums_after b m) (orders_of (after b m) (locate_of m)) (trades_of (after b m) (locate_of m)) (m ∷ story (locate_of m) h) →
        Stands (after b m) (m ∷ h)
    placed sl ro rt oo ot w =
        record {
          stocks_rise = rw n (from-write 0 b.stocks.pairs z.stocks_rise (locate_of m) (Some (stock_after b m)) (omega arith));
          orders_rise = ro;
          trades_rise = rt;
          listed = λ l. ap is_some (found m n l)
              ∙ elim (eqb (locate_of m) l) as (λ t. is_some (cond t (Some (stock_after b m)) (at b.stocks.pairs l)) ≡ cond t true (is_some (at b.stocks.pairs l))) [ true ↦ refl | false ↦ refl ]
              ∙ sl l;
          known = λ l. ap is_some (found m n l) ∙
              elim (eqb_tells (locate_of m) l) [
                | inl e ↦ rw (e.0, n)
                | inr e ↦ rw (e.0, n) (z.known l)
              ];
          listing = each (λ x s. x.listing ≡ listing_of s) (ap (listing_by m) (z.listing (locate_of m))) z.listing;
          state = each (λ x s. x.state ≡ state_of s) (ap (state_by m) (z.state (locate_of m))) z.state;
          restriction = each (λ x s. x.restriction ≡ restriction_of s) (ap (restriction_by m) (z.restriction (locate_of m))) z.restriction;
          stamp = each (λ x s. x.stamp ≡ stamp_told s) refl z.stamp;
          own = λ l. elim (eqb_tells (locate_of m) l) [
            | inl e ↦ subst (λ i. Own (sums (after b m) i) (orders_of (after b m) i) (trades_of (after b m) i) (story i (m ∷ h))) e.1
                (moved (ap (λ y. y.sums) (sym stock_here)) refl refl (sym story_here) w)
            | inr e ↦ moved (ap (λ y. y.sums) (sym (stock_there l e.0))) (sym (oo l e.1)) (sym (ot l e.1)) (sym (story_there l e.0)) (z.own l)
          ];
        }

  -- what the stores hold of a stock
  open_its : (l r : ℕ) → Of place_o l (at b.orders.pairs r) → at (orders_of b l) r ≡ at b.orders.pairs r
  open_its l r its = own_at place_o b.orders.pairs z.orders_rise r l its

  made_its : (l k : ℕ) → Of place_t l (at b.trades.pairs k) → at (trades_of b l) k ≡ at b.trades.pairs k
  made_its l k its = own_at place_t b.trades.pairs z.trades_rise k l its

  pub step : (m : Msg) → Passed b m → sums_after b m ≡ exactly b m → StepsOn b.trades.pairs → Stands (after b m) (m ∷ h)
  step (says l stamp (events v)) a x up =
      record {
        stocks_rise = z.stocks_rise;
        orders_rise = z.orders_rise;
        trades_rise = z.trades_rise;
        listed = z.listed;
        known = z.known;
        listing = z.listing;
        state = z.state;
        restriction = z.restriction;
        stamp = z.stamp;
        own = z.own;
      }
  step (says l stamp (lists v)) a x up =
      let w = z.own l in
      placed (says l stamp (lists v)) refl (λ i. ap (cond (eqb l i) true) (z.listed i)) z.orders_rise z.trades_rise (λ i d. refl) (λ i d. refl)
      (record {
        orders = orders_quiet (sums b l) (orders_of b l) (story l h) w.orders (says l stamp (lists v)) (λ r. refl) refl;
        trades = trades_quiet (sums b l).live_trades (sums b l).live_volume (sums b l).turnover (trades_of b l) (story l h) w.trades (says l stamp (lists v)) (λ k. refl) (λ g. refl);
      })
  step (says l stamp (acts y v)) a x up =
      let w = z.own l in
      placed (says l stamp (acts y v)) refl (seen l a) z.orders_rise z.trades_rise (λ i d. refl) (λ i d. refl)
      (record {
        orders = orders_quiet (sums b l) (orders_of b l) (story l h) w.orders (says l stamp (acts y v)) (λ r. refl) refl;
        trades = trades_quiet (sums b l).live_trades (sums b l).live_volume (sums b l).turnover (trades_of b l) (story l h) w.trades (says l stamp (acts y v)) (λ k. refl) (λ g. refl);
      })
  step (says l stamp (restricts y v)) a x up =
      let w = z.own l in
      placed (says l stamp (restricts y v)) refl (seen l a) z.orders_rise z.trades_rise (λ i d. refl) (λ i d. refl)
      (record {
        orders = orders_quiet (sums b l) (orders_of b l) (story l h) w.orders (says l stamp (restricts y v)) (λ r. refl) refl;
        trades = trades_quiet (sums b l).live_trades (sums b l).live_volume (sums b l).turnover (trades_of b l) (story l h) w.trades (says l stamp (restricts y v)) (λ k. refl) (λ g. refl);
      })
  step (says l stamp (adds r by s p y)) a x up =
      let w = z.own l in
      let o : Order = record { locate = l; side = by; price = p; shares = s } in
      let free : Of place_o l (at b.orders.pairs r) = rw a.free tt in
      placed (says l stamp (adds r by s p y)) refl (seen l a.known) (from-write 0 b.orders.pairs z.orders_rise r (Some o) (omega arith)) z.trades_rise
      (other-write place_o b.orders.pairs z.orders_rise r l (Some o) refl free) (λ i d. refl)
      (moved (sym x) (sym (own-write place_o b.orders.pairs z.orders_rise r l (Some o) refl)) refl refl (record {
        orders = orders_adds (sums b l) (orders_of b l) (story l h) w.orders l stamp r by s p y (open_its l r free ∙ a.free);
        trades = trades_quiet (sums b l).live_trades (sums b l).live_volume (sums b l).turnover (trades_of b l) (story l h) w.trades (says l stamp (adds r by s p y)) (λ k. refl) (λ g. refl);
      }))
  step (says l stamp (executes r s k)) a x up =
      let w = z.own l in
      let o = order b r in
      let n = a.lowers.names in
      let t : Trade = executed_of s o in
      let its : Of place_o l (at b.orders.pairs r) = rw n.there n.its in
      let mine : at (orders_of b l) r ≡ Some o = open_its l r its ∙ n.there in
      let rest : Of place_o l (less o s) = less_of l o s n.its in
      let free : Of place_t l (at b.trades.pairs k) = rw a.unused.free tt in
      let none : at (trades_of b l) k ≡ None = made_its l k free ∙ a.unused.free in
      placed (says l stamp (executes r s k)) refl (seen l n.known)
      (from-write 0 b.orders.pairs z.orders_rise r (less o s) (omega arith)) (from-write 0 b.trades.pairs z.trades_rise k (Some t) (omega arith))
      (other-write place_o b.orders.pairs z.orders_rise r l (less o s) rest its) (other-write place_t b.trades.pairs z.trades_rise k l (Some t) n.its free)
      (moved (sym x) (sym (own-write place_o b.orders.pairs z.orders_rise r l (less o s) rest)) (sym (own-write place_t b.trades.pairs z.trades_rise k l (Some t) n.its)) refl (record {
        orders = orders_executes (sums b l) (orders_of b l) (story l h) w.orders l stamp r s k o mine a.lowers.enough;
        trades = trades_executes (sums b l).live_trades (sums b l).live_volume (sums b l).turnover (trades_of b l) (story l h) w.trades l stamp r s k o (sym (w.orders.held.looks r) ∙ mine) none;
      }))
  step (says l stamp (cancels r s)) a x up =
      let w = z.own l in
      let o = order b r in
      let n = a.names in
      let its : Of place_o l (at b.orders.pairs r) = rw n.there n.its in
      let mine : at (orders_of b l) r ≡ Some o = open_its l r its ∙ n.there in
      let rest : Of place_o l (less o s) = less_of l o s n.its in
      placed (says l stamp (cancels r s)) refl (seen l n.known) (from-write 0 b.orders.pairs z.orders_rise r (less o s) (omega arith)) z.trades_rise
      (other-write place_o b.orders.pairs z.orders_rise r l (less o s) rest its) (λ i d. refl)
      (moved (sym x) (sym (own-write place_o b.orders.pairs z.orders_rise r l (less o s) rest)) refl refl (record {
        orders = orders_cancels (sums b l) (orders_of b l) (story l h) w.orders l stamp r s o mine a.enough;
        trades = trades_quiet (sums b l).live_trades (sums b l).live_volume (sums b l).turnover (trades_of b l) (story l h) w.trades (says l stamp (cancels r s)) (λ k. refl) (λ g. refl);
      }))
  step (says l stamp (deletes r)) a x up =
      let w = z.own l in
      let o = order b r in
      let its : Of place_o l (at b.orders.pairs r) = rw a.there a.its in
      let mine : at (orders_of b l) r ≡ Some o = open_its l r its ∙ a.there in
      placed (says l stamp (deletes r)) refl (seen l a.known) (from-write 0 b.orders.pairs z.orders_rise r None (omega arith)) z.trades_rise
      (other-write place_o b.orders.pairs z.orders_rise r l None tt its) (λ i d. refl)
      (moved (sym x) (sym (own-write place_o b.orders.pairs z.orders_rise r l None tt)) refl refl (record {
        orders = orders_deletes (sums b l) (orders_of b l) (story l h) w.orders l stamp r o mine;
        trades = trades_quiet (sums b l).live_trades (sums b l).live_volume (sums b l).turnover (trades_of b l) (story l h) w.trades (says l stamp (deletes r)) (λ k. refl) (λ g. refl);
      }))
  step (says l stamp (replaces r n s p)) a x up =
      let w = z.own l in
      let o = order b r in
      let new = renewed s p o in
      let c = a.names in
      let its : Of place_o l (at b.orders.pairs r) = rw c.there c.its in
      let mine : at (orders_of b l) r ≡ Some o = open_its l r its ∙ c.there in
      let free : Of place_o l (at b.orders.pairs n) = rw a.free tt in
      let none : at (orders_of b l) n ≡ None = open_its l n free ∙ a.free in
      let out = write b.orders.pairs r None in
      let rise : Rising out = from-write 0 b.orders.pairs z.orders_rise r None (omega arith) in
      placed (says l stamp (replaces r n s p)) refl (seen l c.known) (from-write 0 out rise n (Some new) (omega arith)) z.trades_rise
      (λ i d. other-write place_o out rise n l (Some new) c.its (of_write place_o b.orders.pairs z.orders_rise r l None n tt free) i d
      ∙ other-write place_o b.orders.pairs z.orders_rise r l None tt its i d)
      (λ i d. refl)
      (moved (sym x) (sym (own-write place_o out rise n l (Some new) c.its ∙ ap (λ os. write os n (Some new)) (own-write place_o b.orders.pairs z.orders_rise r l None tt))) refl refl (record {
        orders = orders_replaces (sums b l) (orders_of b l) (story l h) w.orders l stamp r n s p o mine none;
        trades = trades_quiet (sums b l).live_trades (sums b l).live_volume (sums b l).turnover (trades_of b l) (story l h) w.trades (says l stamp (replaces r n s p)) (λ k. refl) (λ g. refl);
      }))
  step (says l stamp (corrects k n s p)) a x up =
      let w = z.own l in
      let t = trade b k in
      let c = a.names in
      let new = stepped s p t in
      let old = standing_as (Corrected n) t in
      let its : Of place_t l (at b.trades.pairs k) = rw c.there c.its in
      let mine : at (trades_of b l) k ≡ Some t = made_its l k its ∙ c.there in
      let free : Of place_t l (at b.trades.pairs n) = rw a.unused.free tt in
      let none : at (trades_of b l) n ≡ None = made_its l n free ∙ a.unused.free in
      let mid = write b.trades.pairs n (Some new) in
      let rise : Rising mid = from-write 0 b.trades.pairs z.trades_rise n (Some new) (omega arith) in
      placed (says l stamp (corrects k n s p)) refl (seen l c.known) z.orders_rise (from-write 0 mid rise k (Some old) (omega arith))
      (λ i d. refl)
      (λ i d. other-write place_t mid rise k l (Some old) c.its (of_write place_t b.trades.pairs z.trades_rise n l (Some new) k c.its its) i d
      ∙ other-write place_t b.trades.pairs z.trades_rise n l (Some new) c.its free i d)
      (moved (sym x) refl
      (ap (λ y. write (write (trades_of b l) n (Some y)) k (Some old)) (sym (steps_to s p t (up k t c.there)))
      ∙ sym (own-write place_t mid rise k l (Some old) c.its ∙ ap (λ ts. write ts k (Some old)) (own-write place_t b.trades.pairs z.trades_rise n l (Some new) c.its))) refl (record {
        orders = orders_corrects (sums b l) (orders_of b l) (story l h) w.orders t l stamp k n s p;
        trades = trades_corrects (sums b l).live_trades (sums b l).live_volume (sums b l).turnover (trades_of b l) (story l h) w.trades l stamp k n s p t mine c.live none;
      }))
  step (says l stamp (breaks k)) a x up =
      let w = z.own l in
      let t = trade b k in
      let old = standing_as Broken t in
      let its : Of place_t l (at b.trades.pairs k) = rw a.there a.its in
      let mine : at (trades_of b l) k ≡ Some t = made_its l k its ∙ a.there in
      placed (says l stamp (breaks k)) refl (seen l a.known) z.orders_rise (from-write 0 b.trades.pairs z.trades_rise k (Some old) (omega arith))
      (λ i d. refl) (other-write place_t b.trades.pairs z.trades_rise k l (Some old) a.its its)
      (moved (sym x) refl (sym (own-write place_t b.trades.pairs z.trades_rise k l (Some old) a.its)) refl (record {
        orders = orders_breaks (sums b l) (orders_of b l) (story l h) w.orders t l stamp k;
        trades = trades_breaks (sums b l).live_trades (sums b l).live_volume (sums b l).turnover (trades_of b l) (story l h) w.trades l stamp k t mine a.live;
      }))
  step (says l stamp foreign) a x up = absurd a
