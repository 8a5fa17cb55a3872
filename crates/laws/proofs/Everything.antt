-- The whole book taken as one stock: what its orders and trades are, all accepted messages say.
use Rattle.std.proofs.Common.{◌≡◌, ℕ, List, ◌∷◌, Some, sym, refl, ap, ◌∙◌, subst}
use Rattle.store.specs.Held.{at, write}
use Rattle.store.proofs.Maps.{Of, own_at}
use Rattle.book.specs.declared.value.Order.{Order}
use Rattle.book.specs.declared.value.Standing.TheVariants.{Corrected}
use Rattle.book.specs.declared.value.Sums.{Sums}
use Rattle.book.specs.declared.value.Trade.{Trade}
use Rattle.book.specs.Book.{Book}
use Rattle.book.specs.Message.{Msg, says, events, lists, acts, restricts, adds, executes, cancels, deletes, replaces, corrects, breaks, foreign}
use Rattle.laws.specs.History.{locate_of, story, standing_as, open_order, made_trade, left, price_of, flow, worth, dealt}
use Rattle.laws.proofs.After.{orders_after, trades_after}
use Rattle.laws.proofs.Accepted.{Open, Lives, Passed}
use Rattle.laws.proofs.Exact as exact
use Rattle.laws.proofs.Figures.{trades_quiet, trades_executes, trades_breaks, trades_corrects}
use Rattle.laws.proofs.Own.{orders_quiet, orders_adds, orders_executes, orders_cancels, orders_deletes, orders_replaces, orders_corrects, orders_breaks}
use Rattle.laws.proofs.Readings.{order, trade, orders_of, trades_of}
use Rattle.laws.proofs.Stands.{Own, Stands, StepsOn, steps_to}
use Rattle.laws.proofs.Tells.{opened_tells, made_tells}

-- some figures x fit the whole book
abbrev pub Everything : Book → List Msg → Type 0
Everything b h = (x : Sums) × Own x b.orders.pairs b.trades.pairs h

module _ (b : Book) (h : List Msg) (x : Sums) (w : Own x b.orders.pairs b.trades.pairs h) where
  -- a message that changes neither orders nor trades
  still : (m : Msg) → ((r : ℕ) → open_order h r ≡ open_order (m ∷ h) r) → flow h m ≡ (0, 0, 0) →
      ((k : ℕ) → made_trade h k ≡ made_trade (m ∷ h) k) → ((g : ℕ → ℕ → ℕ) → dealt g h m ≡ (0, 0, 0, 0)) →
      (y : Sums) × Own y b.orders.pairs b.trades.pairs (m ∷ h)
  still m o f t d = (
    x,
    record {
      orders = orders_quiet x b.orders.pairs h w.orders m o f;
      trades = trades_quiet x.live_trades x.live_volume x.turnover b.trades.pairs h w.trades m t d;
    },
  )

  pub everything_step : (m : Msg) → Passed b m → StepsOn b.trades.pairs → (y : Sums) × Own y (orders_after b m) (trades_after b m) (m ∷ h)
  everything_step (says l stamp (events v)) a up = still (says l stamp (events v)) (λ r. refl) refl (λ k. refl) (λ g. refl)
  everything_step (says l stamp (lists v)) a up = still (says l stamp (lists v)) (λ r. refl) refl (λ k. refl) (λ g. refl)
  everything_step (says l stamp (acts y v)) a up = still (says l stamp (acts y v)) (λ r. refl) refl (λ k. refl) (λ g. refl)
  everything_step (says l stamp (restricts y v)) a up = still (says l stamp (restricts y v)) (λ r. refl) refl (λ k. refl) (λ g. refl)
  everything_step (says l stamp (adds r by s p y)) a up = (
    exact.with_added x s,
    record {
      orders = orders_adds x b.orders.pairs h w.orders l stamp r by s p y a.free;
      trades = trades_quiet x.live_trades x.live_volume x.turnover b.trades.pairs h w.trades (says l stamp (adds r by s p y)) (λ k. refl) (λ g. refl);
    },
  )
  everything_step (says l stamp (executes r s k)) a up =
      let o = order b r in
      let there = a.lowers.names.there in (
        exact.with_executed x o s,
        record {
          orders = orders_executes x b.orders.pairs h w.orders l stamp r s k o there a.lowers.enough;
          trades = trades_executes x.live_trades x.live_volume x.turnover b.trades.pairs h w.trades l stamp r s k o (sym (w.orders.held.looks r) ∙ there) a.unused.free;
        },
      )
  everything_step (says l stamp (cancels r s)) a up = (
    exact.with_cancelled x (order b r) s,
    record {
      orders = orders_cancels x b.orders.pairs h w.orders l stamp r s (order b r) a.names.there a.enough;
      trades = trades_quiet x.live_trades x.live_volume x.turnover b.trades.pairs h w.trades (says l stamp (cancels r s)) (λ k. refl) (λ g. refl);
    },
  )
  everything_step (says l stamp (deletes r)) a up = (
    exact.with_deleted x (order b r),
    record {
      orders = orders_deletes x b.orders.pairs h w.orders l stamp r (order b r) a.there;
      trades = trades_quiet x.live_trades x.live_volume x.turnover b.trades.pairs h w.trades (says l stamp (deletes r)) (λ k. refl) (λ g. refl);
    },
  )
  everything_step (says l stamp (replaces r n s p)) a up = (
    exact.with_added (exact.with_deleted x (order b r)) s,
    record {
      orders = orders_replaces x b.orders.pairs h w.orders l stamp r n s p (order b r) a.names.there a.free;
      trades = trades_quiet x.live_trades x.live_volume x.turnover b.trades.pairs h w.trades (says l stamp (replaces r n s p)) (λ k. refl) (λ g. refl);
    },
  )
  everything_step (says l stamp (corrects k n s p)) a up =
      let t = trade b k in
      let there = a.names.there in
      let y = exact.with_corrected x t s p in
      let new = sym (steps_to s p t (up k t there)) in
      let m = says l stamp (corrects k n s p) in (
        y,
        subst (λ v. Own y b.orders.pairs (write (write b.trades.pairs n (Some v)) k (Some (standing_as (Corrected n) t))) (m ∷ h)) new (record {
          orders = orders_corrects x b.orders.pairs h w.orders t l stamp k n s p;
          trades = trades_corrects x.live_trades x.live_volume x.turnover b.trades.pairs h w.trades l stamp k n s p t there a.names.live a.unused.free;
        }),
      )
  everything_step (says l stamp (breaks k)) a up =
      let t = trade b k in (
        exact.with_broken x t,
        record {
          orders = orders_breaks x b.orders.pairs h w.orders t l stamp k;
          trades = trades_breaks x.live_trades x.live_volume x.turnover b.trades.pairs h w.trades l stamp k t a.there a.live;
        },
      )
  everything_step (says l stamp foreign) a up = absurd a

  -- of what a message names, its stock's messages say what all say
  module _ (z : Stands b h) where
    order_same : (l r : ℕ) → Open b l r → (left h r ≡ left (story l h) r) × (price_of h r ≡ price_of (story l h) r)
    order_same l r a =
        let its : Of (λ (v : Order). v.locate) l (at b.orders.pairs r) = rw a.there a.its in
        let mine : at (orders_of b l) r ≡ at b.orders.pairs r = own_at (λ v. v.locate) b.orders.pairs z.orders_rise r l its in
        let t = opened_tells h r (order b r) (sym (w.orders.held.looks r) ∙ a.there) in
        let u = opened_tells (story l h) r (order b r) (sym ((z.own l).orders.held.looks r) ∙ mine ∙ a.there) in
        (t.0 ∙ sym u.0, t.1 ∙ sym u.1)

    worth_same : (g : ℕ → ℕ → ℕ) (l k : ℕ) → Lives b l k → worth g h k ≡ worth g (story l h) k
    worth_same g l k a =
        let its : Of (λ (v : Trade). v.locate) l (at b.trades.pairs k) = rw a.there a.its in
        let mine : at (trades_of b l) k ≡ at b.trades.pairs k = own_at (λ v. v.locate) b.trades.pairs z.trades_rise k l its in
        made_tells g h k (trade b k) (sym (w.trades.looks k) ∙ a.there)
        ∙ sym (made_tells g (story l h) k (trade b k) (sym ((z.own l).trades.looks k) ∙ mine ∙ a.there))

    pub flow_same : (m : Msg) → Passed b m → flow h m ≡ flow (story (locate_of m) h) m
    flow_same (says l stamp (events v)) a = refl
    flow_same (says l stamp (lists v)) a = refl
    flow_same (says l stamp (acts y v)) a = refl
    flow_same (says l stamp (restricts y v)) a = refl
    flow_same (says l stamp (adds r by s p y)) a = refl
    flow_same (says l stamp (executes r s k)) a = refl
    flow_same (says l stamp (cancels r s)) a = refl
    flow_same (says l stamp (deletes r)) a = ap (λ n. (0, 0, n)) (order_same l r a).0
    flow_same (says l stamp (replaces r n s p)) a = ap (λ n. (s, 0, n)) (order_same l r a.names).0
    flow_same (says l stamp (corrects k n s p)) a = refl
    flow_same (says l stamp (breaks k)) a = refl
    flow_same (says l stamp foreign) a = refl

    pub dealt_same : (g : ℕ → ℕ → ℕ) (m : Msg) → Passed b m → dealt g h m ≡ dealt g (story (locate_of m) h) m
    dealt_same g (says l stamp (events v)) a = refl
    dealt_same g (says l stamp (lists v)) a = refl
    dealt_same g (says l stamp (acts y v)) a = refl
    dealt_same g (says l stamp (restricts y v)) a = refl
    dealt_same g (says l stamp (adds r by s p y)) a = refl
    dealt_same g (says l stamp (executes r s k)) a = ap (λ n. (g s n, 0, 0, 0)) (order_same l r a.lowers.names).1
    dealt_same g (says l stamp (cancels r s)) a = refl
    dealt_same g (says l stamp (deletes r)) a = refl
    dealt_same g (says l stamp (replaces r n s p)) a = refl
    dealt_same g (says l stamp (corrects k n s p)) a = ap (λ n. (0, 0, n, g s p)) (worth_same g l k a.names)
    dealt_same g (says l stamp (breaks k)) a = ap (λ n. (0, n, 0, 0)) (worth_same g l k a)
    dealt_same g (says l stamp foreign) a = refl
