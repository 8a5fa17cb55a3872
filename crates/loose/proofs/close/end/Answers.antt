use Rattle.std.proofs.Common.{◌≡◌, ℕ, true, false, length, get_or, None, rules}
use borrow.Author.Tests.{tests}
use Rattle.std.proofs.lemmas.Iterator.{first_from_Range}
use Rattle.loose.specs.Homes.{stays}
use Rattle.loose.proofs.Scans.{ends_from}
use Rattle.loose.proofs.close.end.Goals as goal

pub returns : goal.returns
returns g c =
    let n = length c.args.slots.now in
    ends_from n c.args.slots.now c.args.low c.args.high c.args.hole c.find.result
    (first_from_Range _ _ _ c.find.result (λ (i : ℕ). stays n (get_or c.args.slots.now i None) i c.args.hole ≡ false) (λ (i : ℕ). stays n (get_or c.args.slots.now i None) i c.args.hole ≡ true) c.find.ensures.ran
    (λ i q called. search (rules, tests)) (λ i q called. search (rules, tests)))
