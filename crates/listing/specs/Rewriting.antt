-- A decoded message, written again and held against its bytes.
use Rattle.std.specs.Prelude.{ℕ, Bool, false, not, List, Ok, Err, Result}
use Rattle.std.specs.Str.{bytes_eq}
use Rattle.wire.specs.declared.fault.WireFault.{WireFault}
use Rattle.wire.specs.declared.message.Feed.{Feed}
use Rattle.wire.specs.Layout.{bytes_of}
use Rattle.wire.specs.Table.{Row, Value}
use Rattle.decode.specs.Decoding.{decoding}
use Rattle.encode.specs.Writing.{writing}

-- Did writing give these bytes? If it was refused it gave none.
abbrev pub gave : Result ℕ WireFault → Row × List Value → List ℕ → Bool
gave (Ok n) m bytes = bytes_eq (bytes_of m) bytes
gave (Err f) m bytes = false

-- Does writing a message of a feed give these bytes? No message is longer than 43 bytes.
abbrev pub gives : Feed → Row × List Value → List ℕ → Bool
gives f m bytes = gave (writing f m 43) m bytes

-- Does what was decoded from these bytes give others when it is written again? What was refused is not written.
abbrev pub differs_as : Feed → Result (Row × List Value) WireFault → List ℕ → Bool
differs_as f (Ok m) bytes = not (gives f m bytes)
differs_as f (Err e) bytes = false

-- Does a message differ when it is decoded and written again?
abbrev pub differs : Feed → List ℕ → Bool
differs f bytes = differs_as f (decoding f bytes) bytes
