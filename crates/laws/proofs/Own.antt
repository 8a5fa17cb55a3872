-- One stock: how its figures, its open orders and its trades hang together with its own messages.
use Rattle.std.proofs.Common.{◌≡◌, ℕ, ◌+◌, ◌-◌, ◌≤◌, Bool, true, false, cond, eqb, List, [], ◌∷◌, Some, None, Option, sym, refl, ap, ◌∙◌, inl, inr, arith}
use Rattle.std.specs.Option.{option_map}
use Rattle.std.proofs.lemmas.Bool.Decides.{eqb_tells, leb_tells}
use Rattle.store.specs.Held.{at, write, Rising}
use Rattle.store.specs.Sums.{weigh, sum}
use Rattle.store.proofs.Maps.{at-write, from-write, sum-write}
use Rattle.book.specs.declared.value.Order.{Order}
use Rattle.book.specs.declared.value.Trade.{Trade}
use Rattle.book.specs.declared.value.Sums.{Sums}
use Rattle.book.specs.declared.value.Side.{Side}
use Rattle.book.specs.Message.{Msg, says, adds, executes, cancels, deletes, replaces, corrects, breaks}
use Rattle.laws.specs.History.{less, lowered, renewed, open_order, left, flow, adding, executing, removing}
use Rattle.laws.proofs.After.{gone}
use Rattle.laws.proofs.Exact.{with_added, with_executed, with_cancelled, with_deleted, with_corrected, with_broken}
use Rattle.laws.proofs.Tells.{opened_tells}

-- summed over all messages, each after all that came before it
abbrev pub whole : (List Msg → Msg → ℕ) → List Msg → ℕ
whole f [] = 0
whole f (m ∷ h) = f h m + whole f h

abbrev pub shares_in : Order → ℕ
shares_in o = o.shares

abbrev pub one : Order → ℕ
one o = 1

-- the open orders, by their look-ups and their sums
pub record Kept (os : List (ℕ × Order)) (look : ℕ → Option Order) (n c : ℕ) : Type 0 where
  pub rise : Rising os
  pub looks : (r : ℕ) → at os r ≡ look r
  pub shares : n ≡ sum shares_in os
  pub orders : c ≡ sum one os

held-write : (os : List (ℕ × Order)) (look : ℕ → Option Order) (n c : ℕ) → Kept os look n c → (r : ℕ) (old new : Option Order) → at os r ≡ old → (n' c' : ℕ) →
    n' + weigh shares_in old ≡ n + weigh shares_in new → c' + weigh one old ≡ c + weigh one new →
    Kept (write os r new) (λ j. cond (eqb r j) new (look j)) n' c'
held-write os look n c h r old new e n' c' p q =
    let s = rw e at (sum-write shares_in 0 os h.rise r new) in
    let t = rw e at (sum-write one 0 os h.rise r new) in
    let hs = h.shares in
    let ho = h.orders in
    record {
      rise = from-write 0 os h.rise r new (omega arith);
      looks = λ j. at-write 0 os h.rise r new j ∙ ap (cond (eqb r j) new) (h.looks j);
      shares = omega arith;
      orders = omega arith;
    }

held_like : (os : List (ℕ × Order)) (look look' : ℕ → Option Order) (n c : ℕ) → ((r : ℕ) → look r ≡ look' r) → Kept os look n c → Kept os look' n c
held_like os look look' n c e h = record { rise = h.rise; looks = λ r. h.looks r ∙ e r; shares = h.shares; orders = h.orders }

pub record Orders (s : Sums) (os : List (ℕ × Order)) (h : List Msg) : Type 0 where
  pub held : Kept os (open_order h) s.open_shares s.open_orders
  pub added : s.added ≡ whole adding h
  pub executed : s.executed ≡ whole executing h
  pub removed : s.removed ≡ whole removing h
  pub balance : s.open_shares + s.executed + s.removed ≡ s.added

-- an order of at least n shares that loses n
less_shares : (o : Order) (n : ℕ) → n ≤ o.shares → weigh shares_in (less o n) + n ≡ o.shares
less_shares o n h = elim (leb_tells o.shares n) [ inl g ↦ rw g.0 (omega arith) | inr g ↦ rw g.0 (omega arith) ]

pub less_one : (o : Order) (n : ℕ) → weigh one (less o n) + gone o n ≡ 1
less_one o n = elim (leb_tells o.shares n) [ inl g ↦ rw g.0 | inr g ↦ rw g.0 ]

module _ (x : Sums) (os : List (ℕ × Order)) (h : List Msg) (w : Orders x os h) where
  -- a message that neither opens nor changes an order
  pub orders_quiet : (m : Msg) → ((r : ℕ) → open_order h r ≡ open_order (m ∷ h) r) → flow h m ≡ (0, 0, 0) → Orders x os (m ∷ h)
  orders_quiet m looks still =
      let a : adding h m ≡ 0 = ap (λ t. t.0) still in
      let e : executing h m ≡ 0 = ap (λ t. t.1) still in
      let d : removing h m ≡ 0 = ap (λ t. t.2) still in
      record {
        held = held_like os (open_order h) (open_order (m ∷ h)) x.open_shares x.open_orders looks w.held;
        added = omega (arith, w.added);
        executed = omega (arith, w.executed);
        removed = omega (arith, w.removed);
        balance = w.balance;
      }

  pub orders_adds : (l stamp r : ℕ) (by : Side) (s p : ℕ) (y : List ℕ) → at os r ≡ None →
      Orders (with_added x s) (write os r (Some (record { locate = l; side = by; price = p; shares = s }))) (says l stamp (adds r by s p y) ∷ h)
  orders_adds l stamp r by s p y e =
      record {
        held = held-write os (open_order h) x.open_shares x.open_orders w.held r None (Some (record { locate = l; side = by; price = p; shares = s })) e
            (x.open_shares + s) (x.open_orders + 1) (omega arith) (omega arith);
        added = omega (arith, w.added);
        executed = omega (arith, w.executed);
        removed = omega (arith, w.removed);
        balance = omega (arith, w.balance);
      }

  looked : (r : ℕ) (o : Order) → at os r ≡ Some o → open_order h r ≡ Some o
  looked r o e = sym (w.held.looks r) ∙ e

  -- an open order's part of the sums
  within : (r : ℕ) (o : Order) → at os r ≡ Some o → (o.shares ≤ x.open_shares) × (1 ≤ x.open_orders)
  within r o e =
      let s = rw e at (sum-write shares_in 0 os w.held.rise r None) in
      let t = rw e at (sum-write one 0 os w.held.rise r None) in
      (omega (arith, s, w.held.shares), omega (arith, t, w.held.orders))

  keeps_less : (r : ℕ) (o : Order) (s : ℕ) → at os r ≡ Some o → s ≤ o.shares →
      Kept (write os r (less o s)) (λ j. cond (eqb r j) (lowered s (open_order h j)) (open_order h j)) (x.open_shares - s) (x.open_orders - gone o s)
  keeps_less r o s e b =
      let i = within r o e in
      let n = less_shares o s b in
      let c = less_one o s in
      held_like (write os r (less o s)) (λ j. cond (eqb r j) (less o s) (open_order h j)) (λ j. cond (eqb r j) (lowered s (open_order h j)) (open_order h j))
      (x.open_shares - s) (x.open_orders - gone o s) alike
      (held-write os (open_order h) x.open_shares x.open_orders w.held r (Some o) (less o s) e
      (x.open_shares - s) (x.open_orders - gone o s) (omega arith) (omega arith))
    where
      alike : (j : ℕ) → cond (eqb r j) (less o s) (open_order h j) ≡ cond (eqb r j) (lowered s (open_order h j)) (open_order h j)
      alike j =
          elim (eqb_tells r j) [
            | inl q ↦ let k : open_order h j ≡ Some o = rw q.1 at (looked r o e) in rw (q.0, k)
            | inr q ↦ rw q.0
          ]

  pub orders_executes : (l stamp r s k : ℕ) (o : Order) → at os r ≡ Some o → s ≤ o.shares →
      Orders (with_executed x o s) (write os r (less o s)) (says l stamp (executes r s k) ∷ h)
  orders_executes l stamp r s k o e b =
      let i = within r o e in
      record {
        held = keeps_less r o s e b;
        added = omega (arith, w.added);
        executed = omega (arith, w.executed);
        removed = omega (arith, w.removed);
        balance = omega (arith, w.balance);
      }

  pub orders_cancels : (l stamp r s : ℕ) (o : Order) → at os r ≡ Some o → s ≤ o.shares →
      Orders (with_cancelled x o s) (write os r (less o s)) (says l stamp (cancels r s) ∷ h)
  orders_cancels l stamp r s o e b =
      let i = within r o e in
      record {
        held = keeps_less r o s e b;
        added = omega (arith, w.added);
        executed = omega (arith, w.executed);
        removed = omega (arith, w.removed);
        balance = omega (arith, w.balance);
      }

  taken_out : (r : ℕ) (o : Order) → at os r ≡ Some o →
      Kept (write os r None) (λ j. cond (eqb r j) None (open_order h j)) (x.open_shares - o.shares) (x.open_orders - 1)
  taken_out r o e =
      let i = within r o e in
      held-write os (open_order h) x.open_shares x.open_orders w.held r (Some o) None e
      (x.open_shares - o.shares) (x.open_orders - 1) (omega arith) (omega arith)

  -- the shares then open of an order
  pub left_is : (r : ℕ) (o : Order) → at os r ≡ Some o → left h r ≡ o.shares
  left_is r o e = (opened_tells h r o (looked r o e)).0

  pub orders_deletes : (l stamp r : ℕ) (o : Order) → at os r ≡ Some o →
      Orders (with_deleted x o) (write os r None) (says l stamp (deletes r) ∷ h)
  orders_deletes l stamp r o e =
      let i = within r o e in
      let t = left_is r o e in
      record {
        held = taken_out r o e;
        added = omega (arith, w.added);
        executed = omega (arith, w.executed);
        removed = omega (arith, w.removed);
        balance = omega (arith, w.balance);
      }

  pub orders_replaces : (l stamp r n s p : ℕ) (o : Order) → at os r ≡ Some o → at os n ≡ None →
      Orders (with_added (with_deleted x o) s) (write (write os r None) n (Some (renewed s p o))) (says l stamp (replaces r n s p) ∷ h)
  orders_replaces l stamp r n s p o e f =
      let i = within r o e in
      let t = left_is r o e in
      let a : at (write os r None) n ≡ None = at-write 0 os w.held.rise r None n ∙ ap (cond (eqb r n) None) f ∙ either (eqb r n) in
      record {
        held =
            held_like (write (write os r None) n (Some (renewed s p o))) (λ j. cond (eqb n j) (Some (renewed s p o)) (cond (eqb r j) None (open_order h j))) (open_order (says l stamp (replaces r n s p) ∷ h))
            (x.open_shares - o.shares + s) (x.open_orders - 1 + 1)
            (λ j. ap (λ y. cond (eqb n j) (option_map (renewed s p) y) (cond (eqb r j) None (open_order h j))) (sym (looked r o e)))
            (held-write (write os r None) (λ j. cond (eqb r j) None (open_order h j)) (x.open_shares - o.shares) (x.open_orders - 1) (taken_out r o e)
            n None (Some (renewed s p o)) a (x.open_shares - o.shares + s) (x.open_orders - 1 + 1) (omega arith) (omega arith));
        added = omega (arith, w.added);
        executed = omega (arith, w.executed);
        removed = omega (arith, w.removed);
        balance = omega (arith, w.balance);
      }
    where
      either : (b : Bool) → cond {A = Option Order} b None None ≡ None
      either true = refl
      either false = refl

  pub orders_corrects : (t : Trade) (l stamp k n s p : ℕ) → Orders (with_corrected x t s p) os (says l stamp (corrects k n s p) ∷ h)
  orders_corrects t l stamp k n s p =
      record { held = w.held; added = omega (arith, w.added); executed = omega (arith, w.executed); removed = omega (arith, w.removed); balance = w.balance }

  pub orders_breaks : (t : Trade) (l stamp k : ℕ) → Orders (with_broken x t) os (says l stamp (breaks k) ∷ h)
  orders_breaks t l stamp k =
      record { held = w.held; added = omega (arith, w.added); executed = omega (arith, w.executed); removed = omega (arith, w.removed); balance = w.balance }
