-- What a book has of a stock, an order and a trade; what is not there counts as zero.
use Rattle.std.proofs.Common.{ℕ, List, [], None}
use Rattle.store.specs.Held.{at, or_else}
use Rattle.book.specs.declared.value.Stock.{Stock}
use Rattle.book.specs.declared.value.Order.{Order}
use Rattle.book.specs.declared.value.Trade.{Trade}
use Rattle.book.specs.declared.value.Sums.{Sums}
use Rattle.book.specs.declared.value.Side.TheVariants.{Buy}
use Rattle.book.specs.declared.value.TradingState.TheVariants.{Halted}
use Rattle.book.specs.declared.value.Standing.TheVariants.{Broken}
use Rattle.book.specs.Sums.{nothing}
use Rattle.book.specs.Book.{Book}
use Rattle.book.specs.Quote as quote
use Rattle.laws.specs.Laws as laws

abbrev pub no_stock : Stock
no_stock = record { listing = record { symbol = []; category = 0; lot = 0; authenticity = 0 }; state = Halted; restriction = None; stamp = 0; sums = nothing }

abbrev pub no_order : Order
no_order = record { locate = 0; side = Buy; price = 0; shares = 0 }

abbrev pub no_trade : Trade
no_trade = record { locate = 0; price = 0; shares = 0; step = 0; standing = Broken }

abbrev pub stock : Book → ℕ → Stock
stock b l = or_else no_stock (at b.stocks.pairs l)

abbrev pub sums : Book → ℕ → Sums
sums b l = (stock b l).sums

abbrev pub order : Book → ℕ → Order
order b r = or_else no_order (at b.orders.pairs r)

abbrev pub trade : Book → ℕ → Trade
trade b k = or_else no_trade (at b.trades.pairs k)

-- the open orders and the trades of one stock
abbrev pub orders_of : Book → ℕ → List (ℕ × Order)
orders_of b l = quote.orders_of b.orders.pairs l

abbrev pub trades_of : Book → ℕ → List (ℕ × Trade)
trades_of b l = laws.trades_of b.trades.pairs l
