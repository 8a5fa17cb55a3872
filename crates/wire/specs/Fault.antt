-- The number, the layer and the place of each refusal of bytes and fields.
use Rattle.std.specs.Prelude.{ℕ}
use Rattle.wire.specs.declared.fault.Layer.{Layer}
use Rattle.wire.specs.declared.fault.Layer.TheVariants.{Bytes, Fields}
use Rattle.wire.specs.declared.fault.BytesFault.{BytesFault}
use Rattle.wire.specs.declared.fault.BytesFault.TheVariants.{Empty, NotInFeed, WrongLength, ShortBuffer}
use Rattle.wire.specs.declared.fault.FieldsFault.{FieldsFault}
use Rattle.wire.specs.declared.fault.FieldsFault.TheVariants.{WrongLocate, BadSymbol, UnlistedCode, OutOfBounds, OverLimit}
use Rattle.wire.specs.declared.fault.WireFault.{WireFault}
use Rattle.wire.specs.declared.fault.WireFault.TheVariants as wire

-- Number, layer and place of a refusal of the bytes as a whole.
abbrev pub bytes_told : BytesFault → ℕ × Layer × ℕ
bytes_told Empty = (1, Bytes, 0)
bytes_told NotInFeed = (2, Bytes, 0)
bytes_told (WrongLength place) = (3, Bytes, place)
bytes_told (ShortBuffer place) = (9, Bytes, place)

-- Number, layer and place of a refusal of a field.
abbrev pub fields_told : FieldsFault → ℕ × Layer × ℕ
fields_told WrongLocate = (4, Fields, 1)
fields_told (BadSymbol place) = (5, Fields, place)
fields_told (UnlistedCode place) = (6, Fields, place)
fields_told (OutOfBounds place) = (7, Fields, place)
fields_told (OverLimit place) = (8, Fields, place)

-- Number, layer and place of a refusal of either sort.
abbrev pub told : WireFault → ℕ × Layer × ℕ
told (wire.Bytes f) = bytes_told f
told (wire.Fields f) = fields_told f
