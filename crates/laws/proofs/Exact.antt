-- The stock's figures with sums that never stop: what they are as long as all stays small.
use Rattle.std.proofs.Common.{◌≡◌, ℕ, ◌+◌, ◌-◌, ◌*◌, ◌≤◌, arith}
use Rattle.book.specs.declared.value.Order.{Order}
use Rattle.book.specs.declared.value.Trade.{Trade}
use Rattle.book.specs.declared.value.Sums.{Sums}
use Rattle.laws.proofs.After.{gone}
use Rattle.laws.proofs.After as after
use Rattle.book.specs.Sums.{◌⊕◌, worth}

module _ (x : Sums) where
  abbrev pub with_added : ℕ → Sums
  with_added s =
      record {
        added = x.added + s;
        executed = x.executed;
        removed = x.removed;
        open_shares = x.open_shares + s;
        open_orders = x.open_orders + 1;
        live_trades = x.live_trades;
        live_volume = x.live_volume;
        turnover = x.turnover;
      }

  abbrev pub with_executed : Order → ℕ → Sums
  with_executed o s =
      record {
        added = x.added;
        executed = x.executed + s;
        removed = x.removed;
        open_shares = x.open_shares - s;
        open_orders = x.open_orders - gone o s;
        live_trades = x.live_trades + 1;
        live_volume = x.live_volume + s;
        turnover = x.turnover + o.price * s;
      }

  abbrev pub with_cancelled : Order → ℕ → Sums
  with_cancelled o s =
      record {
        added = x.added;
        executed = x.executed;
        removed = x.removed + s;
        open_shares = x.open_shares - s;
        open_orders = x.open_orders - gone o s;
        live_trades = x.live_trades;
        live_volume = x.live_volume;
        turnover = x.turnover;
      }

  abbrev pub with_deleted : Order → Sums
  with_deleted o =
      record {
        added = x.added;
        executed = x.executed;
        removed = x.removed + o.shares;
        open_shares = x.open_shares - o.shares;
        open_orders = x.open_orders - 1;
        live_trades = x.live_trades;
        live_volume = x.live_volume;
        turnover = x.turnover;
      }

  abbrev pub with_broken : Trade → Sums
  with_broken t =
      record {
        added = x.added;
        executed = x.executed;
        removed = x.removed;
        open_shares = x.open_shares;
        open_orders = x.open_orders;
        live_trades = x.live_trades - 1;
        live_volume = x.live_volume - t.shares;
        turnover = x.turnover - t.price * t.shares;
      }

  abbrev pub with_corrected : Trade → ℕ → ℕ → Sums
  with_corrected t s p =
      record {
        added = x.added;
        executed = x.executed;
        removed = x.removed;
        open_shares = x.open_shares;
        open_orders = x.open_orders;
        live_trades = x.live_trades - 1 + 1;
        live_volume = x.live_volume - t.shares + s;
        turnover = x.turnover - t.price * t.shares + p * s;
      }

-- what a day can bring: a milliard messages of a million shares, 65,536 orders and trades
pub record Small (x : Sums) : Type 0 where
  pub added : x.added ≤ 1000000000000000
  pub balance : x.open_shares + x.executed + x.removed ≡ x.added
  pub open_orders : x.open_orders ≤ 65536
  pub live_trades : x.live_trades ≤ 65536
  pub live_volume : x.live_volume ≤ 65536000000
  pub turnover : x.turnover ≤ 6553600000000000000

module _ (x : Sums) (m : Small x) where
  pub same_added : (s : ℕ) → s ≤ 1000000 → after.with_added x s ≡ with_added x s
  same_added s h =
      let a : x.added ⊕ s ≡ x.added + s = omega (arith, m.added) in
      let o : x.open_shares ⊕ s ≡ x.open_shares + s = omega (arith, m.added, m.balance) in
      let c : x.open_orders ⊕ 1 ≡ x.open_orders + 1 = omega (arith, m.open_orders) in
      λ i. record {
        added = a i;
        executed = x.executed;
        removed = x.removed;
        open_shares = o i;
        open_orders = c i;
        live_trades = x.live_trades;
        live_volume = x.live_volume;
        turnover = x.turnover;
      }

  pub same_executed : (o : Order) (s : ℕ) → s ≤ 1000000 → o.price * s ≤ 100000000000000 → after.with_executed x o s ≡ with_executed x o s
  same_executed o s h v =
      let e : x.executed ⊕ s ≡ x.executed + s = omega (arith, m.added, m.balance) in
      let n : x.live_trades ⊕ 1 ≡ x.live_trades + 1 = omega (arith, m.live_trades) in
      let w : x.live_volume ⊕ s ≡ x.live_volume + s = omega (arith, m.live_volume) in
      let t : x.turnover ⊕ (worth o.price s) ≡ x.turnover + o.price * s = omega (arith, m.turnover) in
      λ i. record {
        added = x.added;
        executed = e i;
        removed = x.removed;
        open_shares = x.open_shares - s;
        open_orders = x.open_orders - gone o s;
        live_trades = n i;
        live_volume = w i;
        turnover = t i;
      }

  pub same_cancelled : (o : Order) (s : ℕ) → s ≤ 1000000 → after.with_cancelled x o s ≡ with_cancelled x o s
  same_cancelled o s h =
      let e : x.removed ⊕ s ≡ x.removed + s = omega (arith, m.added, m.balance) in
      λ i. record {
        added = x.added;
        executed = x.executed;
        removed = e i;
        open_shares = x.open_shares - s;
        open_orders = x.open_orders - gone o s;
        live_trades = x.live_trades;
        live_volume = x.live_volume;
        turnover = x.turnover;
      }

  pub same_deleted : (o : Order) → o.shares ≤ 1000000 → after.with_deleted x o ≡ with_deleted x o
  same_deleted o h =
      let e : x.removed ⊕ o.shares ≡ x.removed + o.shares = omega (arith, m.added, m.balance) in
      λ i. record {
        added = x.added;
        executed = x.executed;
        removed = e i;
        open_shares = x.open_shares - o.shares;
        open_orders = x.open_orders - 1;
        live_trades = x.live_trades;
        live_volume = x.live_volume;
        turnover = x.turnover;
      }

  pub same_replaced : (o : Order) (s : ℕ) → o.shares ≤ 1000000 → s ≤ 1000000 →
      after.with_added (after.with_deleted x o) s ≡ with_added (with_deleted x o) s
  same_replaced o s h k =
      let e : x.removed ⊕ o.shares ≡ x.removed + o.shares = omega (arith, m.added, m.balance) in
      let a : x.added ⊕ s ≡ x.added + s = omega (arith, m.added) in
      let p : (x.open_shares - o.shares) ⊕ s ≡ x.open_shares - o.shares + s = omega (arith, m.added, m.balance) in
      let c : (x.open_orders - 1) ⊕ 1 ≡ x.open_orders - 1 + 1 = omega (arith, m.open_orders) in
      λ i. record {
        added = a i;
        executed = x.executed;
        removed = e i;
        open_shares = p i;
        open_orders = c i;
        live_trades = x.live_trades;
        live_volume = x.live_volume;
        turnover = x.turnover;
      }

  pub same_broken : (t : Trade) → t.price * t.shares ≤ 100000000000000 → after.with_broken x t ≡ with_broken x t
  same_broken t v =
      let e : x.turnover - worth t.price t.shares ≡ x.turnover - t.price * t.shares = omega arith in
      λ i. record {
        added = x.added;
        executed = x.executed;
        removed = x.removed;
        open_shares = x.open_shares;
        open_orders = x.open_orders;
        live_trades = x.live_trades - 1;
        live_volume = x.live_volume - t.shares;
        turnover = e i;
      }

  pub same_corrected : (t : Trade) (s p : ℕ) → t.price * t.shares ≤ 100000000000000 → s ≤ 1000000 → p * s ≤ 100000000000000 →
      after.with_traded (after.with_broken x t) s p ≡ with_corrected x t s p
  same_corrected t s p v h k =
      let n : (x.live_trades - 1) ⊕ 1 ≡ x.live_trades - 1 + 1 = omega (arith, m.live_trades) in
      let w : (x.live_volume - t.shares) ⊕ s ≡ x.live_volume - t.shares + s = omega (arith, m.live_volume) in
      let e : (x.turnover - worth t.price t.shares) ⊕ (worth p s) ≡ x.turnover - t.price * t.shares + p * s = omega (arith, m.turnover) in
      λ i. record {
        added = x.added;
        executed = x.executed;
        removed = x.removed;
        open_shares = x.open_shares;
        open_orders = x.open_orders;
        live_trades = n i;
        live_volume = w i;
        turnover = e i;
      }
