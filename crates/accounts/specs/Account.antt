-- What each accepted message does to the account of its stock, and the laws that the account is held to.
use Rattle.std.specs.Prelude.{ℕ, ◌+◌, ◌-◌, Bool, cond, Some, None, Option, ◌==◌}
use Rattle.book.specs.declared.value.Sums.{Sums}
use Rattle.book.specs.Message.{Msg, Body, says, events, lists, acts, restricts, adds, executes, cancels, deletes, replaces, corrects, breaks, foreign}
use Rattle.book.specs.Sums.{◌⊕◌, worth}
use Rattle.accounts.specs.declared.account.Account.{Account}
use Rattle.accounts.specs.declared.account.Figures.{Figures}
use Rattle.accounts.specs.declared.account.Flow.{Flow}

-- an account before any message
abbrev pub still : Flow
still = record { executed = 0; broken = 0; undone = 0; redone = 0 }

abbrev pub nothing : Account
nothing = record { added = 0; removed = 0; volume = still; turnover = still }

-- A and U add shares
abbrev pub adding : Account → ℕ → Account
adding a n = record { added = a.added ⊕ n; removed = a.removed; volume = a.volume; turnover = a.turnover }

-- X, D and U remove shares
abbrev pub removing : Account → ℕ → Account
removing a n = record { added = a.added; removed = a.removed ⊕ n; volume = a.volume; turnover = a.turnover }

-- E executes
abbrev pub run : Flow → ℕ → Flow
run f n = record { executed = f.executed ⊕ n; broken = f.broken; undone = f.undone; redone = f.redone }

abbrev pub executing : Account → ℕ → ℕ → Account
executing a price n =
    record { added = a.added; removed = a.removed; volume = run a.volume n; turnover = run a.turnover (worth price n) }

-- B takes a trade back
abbrev pub back : Flow → ℕ → Flow
back f n = record { executed = f.executed; broken = f.broken ⊕ n; undone = f.undone; redone = f.redone }

abbrev pub breaking : Account → Figures → Account
breaking a t =
    record { added = a.added; removed = a.removed; volume = back a.volume t.shares; turnover = back a.turnover (worth t.price t.shares) }

-- C undoes a trade's figure and does the new one's
abbrev pub anew : Flow → ℕ → ℕ → Flow
anew f n m = record { executed = f.executed; broken = f.broken; undone = f.undone ⊕ n; redone = f.redone ⊕ m }

abbrev pub correcting : Account → Figures → Figures → Account
correcting a t u =
    record { added = a.added; removed = a.removed; volume = anew a.volume t.shares u.shares; turnover = anew a.turnover (worth t.price t.shares) (worth u.price u.shares) }

-- what a message is about
abbrev pub about : Msg → Body
about (says locate stamp b) = b

-- an account after a message of its stock; `named` is the order or the trade that the message names, as earlier ones made it
abbrev pub posted : Account → Body → Figures → Account
posted a (events e) named = a
posted a (lists v) named = a
posted a (acts s v) named = a
posted a (restricts s v) named = a
posted a (adds ref side n price s) named = adding a n
posted a (executes ref n match) named = executing a named.price n
posted a (cancels ref n) named = removing a n
posted a (deletes ref) named = removing a named.shares
posted a (replaces ref new n price) named = adding (removing a named.shares) n
posted a (corrects match new n price) named = correcting a named (record { price = price; shares = n })
posted a (breaks match) named = breaking a named
posted a foreign named = a

-- an order that loses shares; at none it leaves
abbrev pub lowered : Figures → ℕ → Option Figures
lowered o n = cond (o.shares - n == 0) None (Some (record { price = o.price; shares = o.shares - n }))

-- open shares = added - executed - removed
abbrev pub open_law : Account → ℕ → Bool
open_law a reading = reading + a.volume.executed + a.removed == a.added

-- live volume, and turnover likewise = executed - broken + net of corrections
abbrev pub trade_law : Flow → ℕ → Bool
trade_law f reading = reading + f.broken + f.undone == f.executed + f.redone

-- how many of the three laws a stock's readings break
abbrev pub wrong : Bool → ℕ
wrong balanced = cond balanced 0 1

abbrev pub broken_laws : Account → Sums → ℕ
broken_laws a s =
    wrong (open_law a s.open_shares) + wrong (trade_law a.volume s.live_volume) + wrong (trade_law a.turnover s.turnover)
