-- The day: six events, each once, in their order.
use Rattle.std.specs.Prelude.{ℕ, cond, Some, None, Ok, Err, Option, Result, ◌==◌}
use Rattle.book.specs.declared.fault.BookFault.{BookFault}
use Rattle.book.specs.declared.fault.BookFault.TheVariants.{NotDue}
use Rattle.book.specs.declared.phase.Phase.{Phase}
use Rattle.book.specs.declared.phase.Phase.TheVariants.{Before, Started, System, Market, AfterMarket, AfterSystem, Over}
use Rattle.book.specs.Book.{Book, then}

-- the event that comes next, and the phase that it begins
abbrev pub coming : Phase → Option (ℕ × Phase)
coming Before = Some (79, Started)  -- O
coming Started = Some (83, System)  -- S
coming System = Some (81, Market)  -- Q
coming Market = Some (77, AfterMarket)  -- M
coming AfterMarket = Some (69, AfterSystem)  -- E
coming AfterSystem = Some (67, Over)  -- C
coming Over = None

-- the phase after an event, if it is the one that comes
abbrev pub moved : Option (ℕ × Phase) → ℕ → Result Phase BookFault
moved None letter = Err (NotDue 11)
moved (Some c) letter = cond (letter == c.0) (Ok c.1) (Err (NotDue 11))

-- is the event the next?
abbrev pub next : Phase → ℕ → Result Phase BookFault
next p letter = moved (coming p) letter

-- S: the day moves on
abbrev pub event : Book → ℕ → Result Book BookFault
event b letter =
    then (next b.phase letter) (λ p.
    Ok (record { phase = p; accepted = b.accepted; stocks = b.stocks; orders = b.orders; trades = b.trades }))
