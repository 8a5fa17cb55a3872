-- What writing answers once every question has passed.
use Rattle.std.proofs.Common.{◌≡◌, ℕ, ◌≤◌, true, List, Ok}
use Rattle.std.proofs.lemmas.Bool.{le-leb}
use Rattle.wire.specs.declared.message.Feed.{Feed}
use Rattle.wire.specs.Judging.{row_judged}
use Rattle.wire.specs.Table.{Row, Value}
use Rattle.encode.specs.Writing.{writing}

pub writes : (f : Feed) (m : Row × List Value) (room n : ℕ) → m.0.on f ≡ true → row_judged m.0 m.1 ≡ Ok tt →
    n ≡ m.0.size → n ≤ room → Ok n ≡ writing f m room
writes f m room n on j e h = rw (on, j, ← e, le-leb n room h)
