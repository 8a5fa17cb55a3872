-- The number, the layer and the place of each refusal.
use Rattle.std.specs.Prelude.{ℕ}
use Rattle.wire.specs.Fault.{told}
use Rattle.wire.specs.declared.fault.Layer.{Layer}
use Rattle.wire.specs.declared.fault.Layer.TheVariants as layer
use Rattle.capture.specs.Fault.{told as capture_told}
use Rattle.text.specs.declared.fault_line.FaultLine.{FaultLine}
use Rattle.book.specs.declared.fault.BookFault.{BookFault}
use Rattle.book.specs.declared.fault.BookFault.TheVariants.{TooMany, NotDue, UnknownLocate, OtherSymbol, StocksFull, UnknownReference, UnknownMatch, OtherLocate, NotLive, ReferenceOpen, TooManyShares, MatchUsed, OrdersFull, MatchesFull, ShortBuffer}
use Rattle.book.specs.declared.fault.FeedFault.{FeedFault}
use Rattle.book.specs.declared.fault.FeedFault.TheVariants as feed
use Rattle.book.specs.declared.fault.PlayFault.{PlayFault}
use Rattle.book.specs.declared.fault.PlayFault.TheVariants as play

-- of the book's refusals: number, layer and place
abbrev pub book_told : BookFault → ℕ × Layer × ℕ
book_told TooMany = (10, layer.Book, 0)
book_told (NotDue place) = (11, layer.Book, place)
book_told (UnknownLocate place) = (12, layer.Book, place)
book_told (OtherSymbol place) = (13, layer.Book, place)
book_told StocksFull = (14, layer.Book, 1)
book_told UnknownReference = (15, layer.Book, 11)
book_told UnknownMatch = (16, layer.Book, 11)
book_told OtherLocate = (17, layer.Book, 1)
book_told NotLive = (18, layer.Book, 11)
book_told (ReferenceOpen place) = (19, layer.Book, place)
book_told TooManyShares = (20, layer.Book, 19)
book_told (MatchUsed place) = (21, layer.Book, place)
book_told OrdersFull = (22, layer.Book, 11)
book_told (MatchesFull place) = (23, layer.Book, place)
book_told (ShortBuffer place) = (28, layer.Book, place)

-- of feeding: the bytes' and fields' refusals, and the book's
abbrev pub feed_told : FeedFault → ℕ × Layer × ℕ
feed_told (feed.Wire f) = told f
feed_told (feed.Book f) = book_told f

-- of playing: number, layer, place and pair
abbrev pub play_told : PlayFault → ℕ × Layer × ℕ × ℕ
play_told (play.Index f) = ((capture_told f).0, layer.Capture, (capture_told f).1, (capture_told f).2)
play_told (play.Message pair f) = ((feed_told f).0, (feed_told f).1, (feed_told f).2, pair)

-- what the line of a fault of playing tells: its number, place and pair
abbrev pub told_line : PlayFault → FaultLine
told_line f = record { number = (play_told f).0; place = (play_told f).2; pair = (play_told f).3 }
