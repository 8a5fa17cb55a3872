-- Trading states, restrictions and standings in words.
use Rattle.std.specs.Prelude.{ℕ, List, codes}
use Rattle.book.specs.declared.value.ShortSale.{ShortSale}
use Rattle.book.specs.declared.value.ShortSale.TheVariants.{NoPriceTest, Restricted, StillRestricted}
use Rattle.book.specs.declared.value.Standing.{Standing}
use Rattle.book.specs.declared.value.Standing.TheVariants.{Live, Broken, Corrected}
use Rattle.book.specs.declared.value.TradingState.{TradingState}
use Rattle.book.specs.declared.value.TradingState.TheVariants.{Halted, Trading}

abbrev pub state_words : TradingState → List ℕ
state_words Halted = codes "halted"
state_words Trading = codes "trading"

abbrev pub restriction_words : ShortSale → List ℕ
restriction_words NoPriceTest = codes "no price test"
restriction_words Restricted = codes "restricted"
restriction_words StillRestricted = codes "still restricted"

-- a corrected trade's new match number is not told
abbrev pub standing_words : Standing → List ℕ
standing_words Live = codes "live"
standing_words Broken = codes "broken"
standing_words (Corrected n) = codes "corrected"
