-- What slots hold as a table.
use Rattle.std.specs.Prelude.{ℕ, min, List, [], length, Option}
use Rattle.store.specs.Held.{Held}
use Rattle.loose.specs.Slots.{gathered}

module _ {V : Type 0} where
  -- the pairs in the slots, and a place for each slot
  abbrev pub held_by : List (Option (ℕ × V)) → Held V
  held_by slots = record { pairs = gathered slots; places = length slots }

  -- no pair, over n slots
  abbrev pub fresh : ℕ → Held V
  fresh n = record { pairs = []; places = min n 65536 }
