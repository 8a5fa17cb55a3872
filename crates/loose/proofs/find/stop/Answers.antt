use Rattle.std.proofs.Common.{◌≡◌, ℕ, true, false, get_or, None, rules}
use borrow.Author.Tests.{tests}
use Rattle.std.proofs.lemmas.Iterator.{first_from_Range}
use Rattle.loose.specs.Slots.{passes}
use Rattle.loose.proofs.Scans.{stops_from}
use Rattle.loose.proofs.find.stop.Goals as goal

pub returns : goal.returns
returns g c =
    stops_from c.args.slots.now c.args.low c.args.high c.args.key c.find.result
    (first_from_Range _ _ _ c.find.result (λ (i : ℕ). passes (get_or c.args.slots.now i None) c.args.key ≡ false) (λ (i : ℕ). passes (get_or c.args.slots.now i None) c.args.key ≡ true) c.find.ensures.ran
    (λ i q called. search (rules, tests)) (λ i q called. search (rules, tests)))
