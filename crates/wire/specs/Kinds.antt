-- The row of each kind of message.
use Rattle.std.specs.Prelude.{Some, None, Option}
use Rattle.wire.specs.declared.kind.Kind.{Kind}
use Rattle.wire.specs.declared.kind.Kind.TheVariants as kind
use Rattle.wire.specs.Table.{Row, row_S, row_R, row_H, row_Y, row_A, row_E, row_X, row_D, row_U, row_C, row_B, row_Q, row_T, row_sale_X}

-- A kind's row.
abbrev pub row_of : Kind → Row
row_of kind.Event = row_S
row_of kind.Directory = row_R
row_of kind.TradingAction = row_H
row_of kind.Restriction = row_Y
row_of kind.Add = row_A
row_of kind.Execute = row_E
row_of kind.Cancel = row_X
row_of kind.Delete = row_D
row_of kind.Replace = row_U
row_of kind.Correct = row_C
row_of kind.Break = row_B
row_of kind.Quote = row_Q
row_of kind.Sale = row_T
row_of kind.SaleCancel = row_sale_X

-- The row of a kind that may be absent.
abbrev pub row_in : Option Kind → Option Row
row_in None = None
row_in (Some k) = Some (row_of k)
