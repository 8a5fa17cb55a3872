-- The quote of a stock: on each side its best price and all open shares at it, or nothing.
use Rattle.std.specs.Prelude.{ℕ, min, max, Bool, true, false, cond, ◌&&◌, List, [], ◌∷◌, Some, None, Ok, Option, Result, ◌==◌, nat_eq}
use Rattle.store.specs.Sums.{kept, sum}
use Rattle.book.specs.declared.fault.BookFault.{BookFault}
use Rattle.book.specs.declared.value.Level.{Level}
use Rattle.book.specs.declared.value.Order.{Order}
use Rattle.book.specs.declared.value.Quote.{Quote}
use Rattle.book.specs.declared.value.Side.{Side}
use Rattle.book.specs.declared.value.Side.TheVariants.{Buy, Sell}
use Rattle.book.specs.Book.{Book, then, stock}

-- the open orders of one stock
abbrev pub orders_of : List (ℕ × Order) → ℕ → List (ℕ × Order)
orders_of os l = kept (λ o. nat_eq o.locate l) os

-- whether two sides are the same
abbrev pub on_side : Side → Side → Bool
on_side Buy Buy = true
on_side Buy Sell = false
on_side Sell Buy = false
on_side Sell Sell = true

-- the better of two prices: the higher to buy, the lower to sell
abbrev pub better : Side → ℕ → Option ℕ → ℕ
better by p None = p
better Buy p (Some q) = max p q
better Sell p (Some q) = min p q

-- the best price of a side's orders, if it has one
abbrev pub best : Side → List (ℕ × Order) → Option ℕ
best by [] = None
best by (e ∷ os) = cond (on_side by e.1.side) (Some (better by e.1.price (best by os))) (best by os)

-- an order's shares, if it is of this side and has this price
abbrev pub shares_at : Side → ℕ → Order → ℕ
shares_at by p o = cond (on_side by o.side && o.price == p) o.shares 0

-- a price with all open shares at it
abbrev pub level : Side → List (ℕ × Order) → Option ℕ → Option Level
level by os None = None
level by os (Some p) = Some (record { price = p; shares = sum (shares_at by p) os })

-- a side of the quote that these orders make
abbrev pub quoted : Side → List (ℕ × Order) → Option Level
quoted by os = level by os (best by os)

-- the quote of a known stock
abbrev pub quote : Book → ℕ → Result Quote BookFault
quote b l =
    then (stock b l 0) (λ _.
    Ok (record { bid = quoted Buy (orders_of b.orders.pairs l); offer = quoted Sell (orders_of b.orders.pairs l) }))
