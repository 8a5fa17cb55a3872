-- The bytes of a number as std writes them, and as the layout has them.
use Rattle.std.proofs.Common.{◌≡◌, ℕ, rules}
use Rattle.std.specs.Int.{to_be_bytes, w32, w64}
use Rattle.wire.specs.Layout.{digits}

pub long : (n : ℕ) → to_be_bytes w64 n ≡ digits 8 n
long n = search rules

pub quad : (n : ℕ) → to_be_bytes w32 n ≡ digits 4 n
quad n = search rules
