-- Levels as orders join them one by one.
use Rattle.std.specs.Prelude.{ℕ, ◌+◌, ◌*◌, ◌^◌, ◌≤◌, Bool, cond, List, Some, None, Option, ◌==◌, nat_lt}
use Rattle.book.specs.declared.value.Level.{Level}
use Rattle.book.specs.declared.value.Order.{Order}
use Rattle.book.specs.declared.value.Quote.{Quote}
use Rattle.book.specs.declared.value.Side.{Side}
use Rattle.book.specs.declared.value.Side.TheVariants.{Buy, Sell}
use Rattle.book.specs.Quote.{orders_of, quoted}

-- the quote of the stock l that these open orders make
abbrev pub levels : List (ℕ × Order) → ℕ → Quote
levels os l = record { bid = quoted Buy (orders_of os l); offer = quoted Sell (orders_of os l) }

-- whether the price p is better than q: higher to buy, lower to sell
abbrev pub beats : Side → ℕ → ℕ → Bool
beats Buy p q = nat_lt q p
beats Sell p q = nat_lt p q

-- the best level of two: at one price their shares add up, else the better price wins
abbrev pub joined : Side → Option Level → Option Level → Option Level
joined by None w = w
joined by (Some v) None = Some v
joined by (Some v) (Some w) =
    cond (w.price == v.price) (Some (record { price = w.price; shares = v.shares + w.shares }))
    (cond (beats by w.price v.price) (Some w) (Some v))

-- an order as a level of its own
abbrev pub alone : Order → Option Level
alone o = Some (record { price = o.price; shares = o.shares })

-- a quote with an order of this side
abbrev pub on : Quote → Order → Side → Quote
on q o Buy = record { bid = joined Buy q.bid (alone o); offer = q.offer }
on q o Sell = record { bid = q.bid; offer = joined Sell q.offer (alone o) }

-- a quote of the stock l with an order, which counts only if it is of that stock
abbrev pub with_order : Quote → ℕ → Order → Quote
with_order q l o = cond (o.locate == l) (on q o o.side) q

-- the shares of a level
abbrev pub shares_in : Option Level → ℕ
shares_in None = 0
shares_in (Some v) = v.shares

-- room in 64 bits for n more orders on either side
abbrev pub Room : Quote → ℕ → Type 0
Room q n = (shares_in q.bid + 2 ^ 32 * n ≤ 2 ^ 64) × (shares_in q.offer + 2 ^ 32 * n ≤ 2 ^ 64)
