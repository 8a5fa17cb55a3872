-- What an engine holds.
use Rattle.store.specs.declared.Holds.{Ghosts}
use Rattle.book.specs.declared.value.Stock.{Stock}
use Rattle.book.specs.declared.value.Order.{Order}
use Rattle.book.specs.declared.value.Trade.{Trade}
use Rattle.book.specs.Book.{Book}
use Rattle.ledger.specs.Ledger.{book_in}
use Rattle.engine.specs.declared.making.Engine.{Engine}

-- the book of an engine over any three stores
abbrev pub engine_book : {S O M : Type 0} → Ghosts S Stock → Ghosts O Order → Ghosts M Trade → Engine S O M → Book
engine_book s o m e = book_in s o m e.ledger
