-- What a message of the code tells: its row and the values of its fields, from the locate on.
use Rattle.std.specs.Prelude.{List, [], ◌∷◌}
use Rattle.wire.specs.declared.message.Head.{Head}
use Rattle.wire.specs.declared.message.Symbol.{Symbol}
use Rattle.wire.specs.declared.message.Event.{Event}
use Rattle.wire.specs.declared.message.Directory.{Directory}
use Rattle.wire.specs.declared.message.TradingAction.{TradingAction}
use Rattle.wire.specs.declared.message.Restriction.{Restriction}
use Rattle.wire.specs.declared.message.Add.{Add}
use Rattle.wire.specs.declared.message.Execute.{Execute}
use Rattle.wire.specs.declared.message.Cancel.{Cancel}
use Rattle.wire.specs.declared.message.Delete.{Delete}
use Rattle.wire.specs.declared.message.Replace.{Replace}
use Rattle.wire.specs.declared.message.Correct.{Correct}
use Rattle.wire.specs.declared.message.Break.{Break}
use Rattle.wire.specs.declared.message.Quote.{Quote}
use Rattle.wire.specs.declared.message.Sale.{Sale}
use Rattle.wire.specs.declared.message.Message.{Message}
use Rattle.wire.specs.declared.message.Message.TheVariants as message
use Rattle.wire.specs.Table.{Row, Value, figure, text, row_S, row_R, row_H, row_Y, row_A, row_E, row_X, row_D, row_U, row_C, row_B, row_Q, row_T, row_sale_X}

-- Locate and time stamp, and then these values.
abbrev pub with_head : Head → List Value → List Value
with_head h vs = figure h.locate ∷ figure h.stamp ∷ vs

-- A symbol's place and bytes.
abbrev pub of_symbol : Symbol → Value
of_symbol s = text s.place s.bytes.now

-- The values of an event, in the order of its row, as in all that follow.
abbrev pub of_event : Event → List Value
of_event m = with_head m.head (figure m.event ∷ [])

-- The values of a stock's entry in the directory.
abbrev pub of_directory : Directory → List Value
of_directory m = with_head m.head
    (of_symbol m.stock ∷ figure m.category ∷ figure m.lot ∷ figure m.authenticity ∷ [])

-- The values of a halt or release.
abbrev pub of_trading_action : TradingAction → List Value
of_trading_action m = with_head m.head (of_symbol m.stock ∷ figure m.state ∷ [])

-- The values of a short sale restriction.
abbrev pub of_restriction : Restriction → List Value
of_restriction m = with_head m.head (of_symbol m.stock ∷ figure m.restriction ∷ [])

-- The values of an order that opens.
abbrev pub of_add : Add → List Value
of_add m = with_head m.head
    (figure m.reference ∷ figure m.side ∷ figure m.shares ∷ of_symbol m.stock ∷ figure m.price ∷ [])

-- The values of an execution.
abbrev pub of_execute : Execute → List Value
of_execute m = with_head m.head (figure m.reference ∷ figure m.shares ∷ figure m.match_number ∷ [])

-- The values of a cancellation of shares.
abbrev pub of_cancel : Cancel → List Value
of_cancel m = with_head m.head (figure m.reference ∷ figure m.shares ∷ [])

-- The values of an order that leaves.
abbrev pub of_delete : Delete → List Value
of_delete m = with_head m.head (figure m.reference ∷ [])

-- The values of an order that gives way to a new one.
abbrev pub of_replace : Replace → List Value
of_replace m = with_head m.head
    (figure m.original ∷ figure m.new_reference ∷ figure m.shares ∷ figure m.price ∷ [])

-- The values of a correction.
abbrev pub of_correct : Correct → List Value
of_correct m = with_head m.head
    (figure m.match_number ∷ figure m.new_match_number ∷ figure m.shares ∷ figure m.price ∷ [])

-- The values of a broken trade.
abbrev pub of_break : Break → List Value
of_break m = with_head m.head (figure m.match_number ∷ [])

-- The values of a best bid and offer.
abbrev pub of_quote : Quote → List Value
of_quote m = with_head m.head
    (of_symbol m.stock ∷ figure m.bid ∷ figure m.bid_size ∷ figure m.offer ∷ figure m.offer_size ∷ [])

-- The values of a sale, or of its cancellation.
abbrev pub of_sale : Sale → List Value
of_sale m = with_head m.head
    (of_symbol m.stock ∷ figure m.match_number ∷ figure m.price ∷ figure m.size ∷ [])

-- A message's row and values.
abbrev pub told : Message → Row × List Value
told (message.Event m) = (row_S, of_event m)
told (message.Directory m) = (row_R, of_directory m)
told (message.TradingAction m) = (row_H, of_trading_action m)
told (message.Restriction m) = (row_Y, of_restriction m)
told (message.Add m) = (row_A, of_add m)
told (message.Execute m) = (row_E, of_execute m)
told (message.Cancel m) = (row_X, of_cancel m)
told (message.Delete m) = (row_D, of_delete m)
told (message.Replace m) = (row_U, of_replace m)
told (message.Correct m) = (row_C, of_correct m)
told (message.Break m) = (row_B, of_break m)
told (message.Quote m) = (row_Q, of_quote m)
told (message.Sale m) = (row_T, of_sale m)
told (message.SaleCancel m) = (row_sale_X, of_sale m)

-- A message's locate and time stamp.
abbrev pub head_of : Message → Head
head_of (message.Event m) = m.head
head_of (message.Directory m) = m.head
head_of (message.TradingAction m) = m.head
head_of (message.Restriction m) = m.head
head_of (message.Add m) = m.head
head_of (message.Execute m) = m.head
head_of (message.Cancel m) = m.head
head_of (message.Delete m) = m.head
head_of (message.Replace m) = m.head
head_of (message.Correct m) = m.head
head_of (message.Break m) = m.head
head_of (message.Quote m) = m.head
head_of (message.Sale m) = m.head
head_of (message.SaleCancel m) = m.head
