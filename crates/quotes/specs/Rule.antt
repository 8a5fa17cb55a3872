-- What a quote is, told by the open orders: `os` has them under their references.
use Rattle.std.specs.Prelude.{◌≡◌, ℕ, ◌≤◌, cond, ◌&&◌, List, Some, None, Ok, Err, Option, Result, ◌==◌}
use Rattle.store.specs.Held.{at, find}
use Rattle.store.specs.Sums.{sum}
use Rattle.book.specs.declared.fault.BookFault.{BookFault}
use Rattle.book.specs.declared.fault.BookFault.TheVariants.{UnknownLocate}
use Rattle.book.specs.declared.value.Level.{Level}
use Rattle.book.specs.declared.value.Order.{Order}
use Rattle.book.specs.declared.value.Quote.{Quote}
use Rattle.book.specs.declared.value.Side.{Side}
use Rattle.book.specs.declared.value.Side.TheVariants.{Buy, Sell}
use Rattle.book.specs.declared.value.Stock.{Stock}
use Rattle.book.specs.Book.{Book}
use Rattle.book.specs.Quote.{on_side}

-- an open order of the stock l on a side, under the reference k
pub record Open (os : List (ℕ × Order)) (l : ℕ) (by : Side) (k : ℕ) (o : Order) : Type 0 where
  pub there : at os k ≡ Some o
  pub its_stock : o.locate ≡ l
  pub its_side : o.side ≡ by

-- the price p is no better than q: not higher to buy, not lower to sell
abbrev pub NoBetter : Side → ℕ → ℕ → Type 0
NoBetter Buy p q = p ≤ q
NoBetter Sell p q = q ≤ p

-- an order's shares, if it is of the stock l and the side, at the price p
abbrev pub counts : ℕ → Side → ℕ → Order → ℕ
counts l by p o = cond (o.locate == l && (on_side by o.side && o.price == p)) o.shares 0

-- a level: no open order of the stock on the side has a better price, one has this price, and the shares are those of all at it
pub record Best (os : List (ℕ × Order)) (l : ℕ) (by : Side) (v : Level) : Type 0 where
  pub none_better : (k : ℕ) (o : Order) → Open os l by k o → NoBetter by o.price v.price
  pub one_there : (k : ℕ) × (o : Order) × Open os l by k o × (o.price ≡ v.price)
  pub all_shares : v.shares ≡ sum (counts l by v.price) os

-- a side of the quote: absent if the stock has no open order of that side, and then only
abbrev pub SideRule : List (ℕ × Order) → ℕ → Side → Option Level → Type 0
SideRule os l by None = (k : ℕ) (o : Order) → Open os l by k o → ⊥
SideRule os l by (Some v) = Best os l by v

-- both sides
pub record LevelsRule (os : List (ℕ × Order)) (l : ℕ) (q : Quote) : Type 0 where
  pub to_buy : SideRule os l Buy q.bid
  pub to_sell : SideRule os l Sell q.offer

-- the answer for a locate: the quote of a known stock, and 12 at place 0 for an unknown one
abbrev pub QuoteRule : Book → ℕ → Result Quote BookFault → Type 0
QuoteRule b l (Ok q) = ((s : Stock) × (find b.stocks l ≡ Some s)) × LevelsRule b.orders.pairs l q
QuoteRule b l (Err f) = (find b.stocks l ≡ None) × (f ≡ UnknownLocate 0)
