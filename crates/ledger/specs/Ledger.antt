-- The book that a ledger keeps.
use Rattle.store.specs.declared.Holds.{Ghosts}
use Rattle.book.specs.declared.value.Stock.{Stock}
use Rattle.book.specs.declared.value.Order.{Order}
use Rattle.book.specs.declared.value.Trade.{Trade}
use Rattle.book.specs.Book.{Book}
use Rattle.ledger.specs.declared.keeping.Ledger.{Ledger}

-- the phase, the count and what each of any three stores holds
abbrev pub book_in : {S O M : Type 0} → Ghosts S Stock → Ghosts O Order → Ghosts M Trade → Ledger S O M → Book
book_in s o m l =
    record { phase = l.phase; accepted = l.accepted; stocks = s.held l.stocks; orders = o.held l.orders; trades = m.held l.trades }
