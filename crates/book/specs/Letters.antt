-- Which letters a side, a trading state and a restriction have in a message.
use Rattle.std.specs.Prelude.{◌≡◌, ℕ, Result, Ok, Err, cond, ◌==◌}
use Rattle.book.specs.declared.letters.Unlisted.{Unlisted}
use Rattle.book.specs.declared.value.Side.{Side}
use Rattle.book.specs.declared.value.Side.TheVariants.{Buy, Sell}
use Rattle.book.specs.declared.value.TradingState.{TradingState}
use Rattle.book.specs.declared.value.TradingState.TheVariants.{Halted, Trading}
use Rattle.book.specs.declared.value.ShortSale.{ShortSale}
use Rattle.book.specs.declared.value.ShortSale.TheVariants.{NoPriceTest, Restricted, StillRestricted}

-- B is buy, S sell, and no other letter is a side
abbrev pub SideOf : ℕ → Result Side Unlisted → Type 0
SideOf c r = r ≡ cond (c == 66) (Ok Buy) (cond (c == 83) (Ok Sell) (Err (record {})))

-- H is halted, T trading
abbrev pub StateOf : ℕ → Result TradingState Unlisted → Type 0
StateOf c r = r ≡ cond (c == 72) (Ok Halted) (cond (c == 84) (Ok Trading) (Err (record {})))

-- 0 is no price test, 1 restricted, 2 still restricted
abbrev pub RestrictionOf : ℕ → Result ShortSale Unlisted → Type 0
RestrictionOf c r = r ≡ cond (c == 48) (Ok NoPriceTest) (cond (c == 49) (Ok Restricted) (cond (c == 50) (Ok StillRestricted) (Err (record {}))))
