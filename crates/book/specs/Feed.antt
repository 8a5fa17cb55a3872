-- What feeding a message makes of a book.
use Rattle.std.specs.Prelude.{◌≡◌, ℕ, ◌+◌, cond, List, Ok, Err, Result, nat_lt}
use Rattle.wire.specs.Table.{Row, Value}
use Rattle.wire.specs.declared.fault.WireFault.{WireFault}
use Rattle.wire.specs.declared.message.Feed.TheVariants.{Depth}
use Rattle.decode.specs.Decoding.{decoding}
use Rattle.book.specs.declared.fault.BookFault.{BookFault}
use Rattle.book.specs.declared.fault.BookFault.TheVariants.{TooMany, NotDue}
use Rattle.book.specs.declared.fault.FeedFault.{FeedFault}
use Rattle.book.specs.declared.fault.FeedFault.TheVariants.{Wire, Book as OfBook}
use Rattle.book.specs.Message.{Msg, says, events, lists, acts, restricts, adds, executes, cancels, deletes, replaces, corrects, breaks, foreign, heard}
use Rattle.book.specs.Book.{Book, then, answer, after}
use Rattle.book.specs.Day.{event}
use Rattle.book.specs.Stocks.{list, trading, restrict}
use Rattle.book.specs.Orders.{add, execute, cancel, delete, replace}
use Rattle.book.specs.Trades.{correct, break}

-- questions 11 to 23, and what an accepted message makes of the book; decoding lets no message of another feed through
abbrev pub act : Book → Msg → Result Book BookFault
act b (says l stamp (events e)) = event b e
act b (says l stamp (lists v)) = list b l stamp v
act b (says l stamp (acts symbol v)) = trading b l stamp symbol v
act b (says l stamp (restricts symbol v)) = restrict b l stamp symbol v
act b (says l stamp (adds r by s p symbol)) = add b l stamp r by s p symbol
act b (says l stamp (executes r s k)) = execute b l stamp r s k
act b (says l stamp (cancels r s)) = cancel b l stamp r s
act b (says l stamp (deletes r)) = delete b l stamp r
act b (says l stamp (replaces r n s p)) = replace b l stamp r n s p
act b (says l stamp (corrects k n s p)) = correct b l stamp k n s p
act b (says l stamp (breaks k)) = break b l stamp k
act b (says l stamp foreign) = Err (NotDue 0)

-- a call that acts on a message, and leaves the book as it was if it refuses
abbrev pub Acts : Book → Msg → Result (Unit {0}) BookFault → Book → Type 0
Acts b m r b' = (r ≡ answer (act b m)) × (b' ≡ after b (act b m))

-- question 10, and the count of what is accepted
abbrev pub counted : Book → Result Book BookFault → Result Book BookFault
counted b x =
    cond (nat_lt b.accepted 1_000_000_000)
    (then x (λ b'. Ok (record {
      phase = b'.phase;
      accepted = b.accepted + 1;
      stocks = b'.stocks;
      orders = b'.orders;
      trades = b'.trades;
    })))
    (Err TooMany)

-- the book after a message
abbrev pub feed : Book → Msg → Result Book BookFault
feed b m = counted b (act b m)

-- the book's refusal as feeding's
abbrev pub lifted : Result Book BookFault → Result Book FeedFault
lifted (Ok b) = Ok b
lifted (Err e) = Err (OfBook e)

-- a decoded message is fed, and bytes that do not decode are refused
abbrev pub fed_as : Book → Result (Row × List Value) WireFault → Result Book FeedFault
fed_as b (Ok m) = lifted (feed b (heard m))
fed_as b (Err f) = Err (Wire f)

-- the book after feeding bytes
abbrev pub fed : Book → List ℕ → Result Book FeedFault
fed b bytes = fed_as b (decoding Depth bytes)

-- feeding's answer: how many messages are accepted so far
abbrev pub count : Result Book FeedFault → Result ℕ FeedFault
count (Ok b) = Ok b.accepted
count (Err e) = Err e
