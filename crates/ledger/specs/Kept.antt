-- A stock as a message leaves it.
use Rattle.store.specs.Held.{change}
use Rattle.wire.specs.declared.message.Head.{Head}
use Rattle.book.specs.declared.value.Stock.{Stock}
use Rattle.book.specs.Book.{Book, with_stocks}

-- the book once a message has changed its stock to x: a known stock is x, with the message's time stamp
abbrev pub kept : Book → Head → Stock → Book
kept b head x =
    with_stocks b (change b.stocks head.locate (record { listing = x.listing; state = x.state; restriction = x.restriction; stamp = head.stamp; sums = x.sums }))
