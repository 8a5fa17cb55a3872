-- Stocks: the directory, halts and restrictions.
use Rattle.std.specs.Prelude.{ℕ, Bool, true, false, cond, not, ◌&&◌, List, [], ◌∷◌, Some, None, Ok, Option, Result, ◌==◌}
use Rattle.std.specs.Str.{bytes_eq}
use Rattle.store.specs.Held.{find, puts, put, change}
use Rattle.book.specs.declared.fault.BookFault.{BookFault}
use Rattle.book.specs.declared.fault.BookFault.TheVariants.{OtherSymbol, StocksFull}
use Rattle.book.specs.declared.value.Listing.{Listing}
use Rattle.book.specs.declared.value.ShortSale.{ShortSale}
use Rattle.book.specs.declared.value.Stock.{Stock}
use Rattle.book.specs.declared.value.TradingState.{TradingState}
use Rattle.book.specs.declared.value.TradingState.TheVariants.{Halted}
use Rattle.book.specs.Book.{Book, then, unless, due, known, owned, placed, with_stocks}
use Rattle.book.specs.Sums.{nothing}

-- whether a stock has this symbol under another locate
abbrev pub elsewhere : List (ℕ × Stock) → ℕ → List ℕ → Bool
elsewhere [] locate symbol = false
elsewhere (p ∷ ps) locate symbol =
    cond (not (p.0 == locate) && bytes_eq p.1.listing.symbol symbol) true (elsewhere ps locate symbol)

-- a stock as it enters: halted, no restriction told, all sums zero
abbrev pub entered : Listing → ℕ → Stock
entered v stamp = record { listing = v; state = Halted; restriction = None; stamp = stamp; sums = nothing }

-- R for a new locate enters the stock; for a known one it replaces what the directory tells, and the stamp
abbrev pub list_known : Book → (l stamp : ℕ) → Listing → Option Stock → Result Book BookFault
list_known b l stamp v None =
    then (placed (puts b.stocks l) StocksFull StocksFull) (λ _.
    Ok (with_stocks b (put b.stocks l (entered v stamp))))
list_known b l stamp v (Some x) =
    then (owned x v.symbol 11) (λ _.
    Ok (with_stocks b (change b.stocks l (record { listing = v; state = x.state; restriction = x.restriction; stamp = stamp; sums = x.sums }))))

-- R, after asking whether the symbol is another's
abbrev pub list : Book → (l stamp : ℕ) → Listing → Result Book BookFault
list b l stamp v =
    then (due b.phase) (λ _.
    then (unless (elsewhere b.stocks.pairs l v.symbol) (OtherSymbol 11)) (λ _.
    list_known b l stamp v (find b.stocks l)))

-- H sets the trading state
abbrev pub trading : Book → (l stamp : ℕ) → List ℕ → TradingState → Result Book BookFault
trading b l stamp symbol v =
    then (known b l) (λ x.
    then (owned x symbol 11) (λ _.
    Ok (with_stocks b (change b.stocks l (record { listing = x.listing; state = v; restriction = x.restriction; stamp = stamp; sums = x.sums })))))

-- Y sets the restriction
abbrev pub restrict : Book → (l stamp : ℕ) → List ℕ → ShortSale → Result Book BookFault
restrict b l stamp symbol v =
    then (known b l) (λ x.
    then (owned x symbol 11) (λ _.
    Ok (with_stocks b (change b.stocks l (record { listing = x.listing; state = x.state; restriction = Some v; stamp = stamp; sums = x.sums })))))
