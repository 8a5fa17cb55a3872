-- The names of a message's fields in its line: one row for each kind of message, to be compared with the format by eye.
use Rattle.std.specs.Prelude.{Bool, cond, ◌&&◌, List, [], ◌∷◌, ◌==◌}
use Prim.Native.String.{String}
use Rattle.wire.specs.Table.{Row, row_S, row_R, row_H, row_Y, row_A, row_E, row_X, row_D, row_U, row_C, row_B, row_Q, row_T, row_sale_X}

-- A kind of message, and the names of its fields after the time stamp in rising offset.
abbrev pub Named : Type 0
Named = Row × List String

-- The names of all of them.
abbrev pub all_named : List Named
all_named =
    (row_S, "event" ∷ [])
    ∷ (row_R, "stock" ∷ "category" ∷ "lot" ∷ "authenticity" ∷ [])
    ∷ (row_H, "stock" ∷ "state" ∷ [])
    ∷ (row_Y, "stock" ∷ "restriction" ∷ [])
    ∷ (row_A, "reference" ∷ "side" ∷ "shares" ∷ "stock" ∷ "price" ∷ [])
    ∷ (row_E, "reference" ∷ "shares" ∷ "match" ∷ [])
    ∷ (row_X, "reference" ∷ "shares" ∷ [])
    ∷ (row_D, "reference" ∷ [])
    ∷ (row_U, "reference" ∷ "new" ∷ "shares" ∷ "price" ∷ [])
    ∷ (row_C, "match" ∷ "new" ∷ "shares" ∷ "price" ∷ [])
    ∷ (row_B, "match" ∷ [])
    ∷ (row_Q, "stock" ∷ "bid" ∷ "bid_size" ∷ "offer" ∷ "offer_size" ∷ [])
    ∷ (row_T, "stock" ∷ "match" ∷ "price" ∷ "size" ∷ [])
    ∷ (row_sale_X, "stock" ∷ "match" ∷ "price" ∷ "size" ∷ [])
    ∷ []

-- Are these one kind? Letter and length tell the kinds apart.
abbrev pub same_kind : Row → Row → Bool
same_kind a b = a.letter == b.letter && a.size == b.size

-- The names that a list has for a kind.
abbrev pub names_in : List Named → Row → List String
names_in [] r = []
names_in (n ∷ ns) r = cond (same_kind n.0 r) n.1 (names_in ns r)

-- The names of every field of a kind, from the locate on.
abbrev pub names : Row → List String
names r = "locate" ∷ "stamp" ∷ names_in all_named r
