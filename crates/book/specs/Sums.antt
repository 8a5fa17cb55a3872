-- How a stock's sums change. Sums stop at the largest number of 64 bits.
use Rattle.std.specs.Prelude.{ℕ, ◌+◌, ◌-◌, ◌*◌, ◌^◌, min, Bool, cond}
use Rattle.book.specs.declared.value.Sums.{Sums}

infixl 65 ◌⊕◌
-- a sum that stops at the largest number of 64 bits
abbrev pub ◌⊕◌ : ℕ → ℕ → ℕ
m ⊕ n = min (m + n) (2 ^ 64 - 1)

-- price times shares, likewise
abbrev pub worth : ℕ → ℕ → ℕ
worth price shares = min (price * shares) (2 ^ 64 - 1)

-- a new stock's sums: all zero
abbrev pub nothing : Sums
nothing = record { added = 0; executed = 0; removed = 0; open_shares = 0; open_orders = 0; live_trades = 0; live_volume = 0; turnover = 0 }

-- an order opens: its shares are added, and are open
abbrev pub opens : Sums → ℕ → Sums
opens t shares =
    record { added = t.added ⊕ shares; executed = t.executed; removed = t.removed; open_shares = t.open_shares ⊕ shares; open_orders = t.open_orders ⊕ 1; live_trades = t.live_trades; live_volume = t.live_volume; turnover = t.turnover }

-- an order loses shares, and leaves if it is gone
abbrev pub lowers : Sums → ℕ → Bool → Sums
lowers t shares gone =
    record { added = t.added; executed = t.executed; removed = t.removed; open_shares = t.open_shares - shares; open_orders = t.open_orders - cond gone 1 0; live_trades = t.live_trades; live_volume = t.live_volume; turnover = t.turnover }

-- shares are executed, and a trade goes live
abbrev pub executes : Sums → ℕ → ℕ → Sums
executes t price shares =
    record { added = t.added; executed = t.executed ⊕ shares; removed = t.removed; open_shares = t.open_shares; open_orders = t.open_orders; live_trades = t.live_trades ⊕ 1; live_volume = t.live_volume ⊕ shares; turnover = t.turnover ⊕ worth price shares }

-- shares are removed unexecuted
abbrev pub removes : Sums → ℕ → Sums
removes t shares =
    record { added = t.added; executed = t.executed; removed = t.removed ⊕ shares; open_shares = t.open_shares; open_orders = t.open_orders; live_trades = t.live_trades; live_volume = t.live_volume; turnover = t.turnover }

-- a trade goes live
abbrev pub trades : Sums → ℕ → ℕ → Sums
trades t price shares =
    record { added = t.added; executed = t.executed; removed = t.removed; open_shares = t.open_shares; open_orders = t.open_orders; live_trades = t.live_trades ⊕ 1; live_volume = t.live_volume ⊕ shares; turnover = t.turnover ⊕ worth price shares }

-- a trade is live no more: it was corrected or broken
abbrev pub untrades : Sums → ℕ → ℕ → Sums
untrades t price shares =
    record { added = t.added; executed = t.executed; removed = t.removed; open_shares = t.open_shares; open_orders = t.open_orders; live_trades = t.live_trades - 1; live_volume = t.live_volume - shares; turnover = t.turnover - worth price shares }
