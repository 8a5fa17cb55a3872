use Rattle.std.proofs.Common.{Some, sym, refl, ap, ◌∙◌, arith}
use Rattle.store.proofs.Writes.{change_free}
use Rattle.ordered.proofs.Found.{was_ok}
use Rattle.own_store.specs.Pairs.{held_as}
use Rattle.own_store.specs.PairsLemmas.{sorted_write}
use Rattle.own_store.proofs.Places.{there, change_there}
use Rattle.own_store.proofs.OwnStoreStore.change.Goals as goal

pub invariant_of-self : goal.invariant_of-self
invariant_of-self g c =
    let s = c.args.self.now in
    let is = sym (was_ok c.find.result _ _ c.in_ok-at.ensures.cases c.in_ok-at.at (λ j e. cc) (λ j never. never)) ∙ c.find.ensures.value in
    let new = change_there s.pairs.items s.rises c.args.key _ _ c.args.value is refl in
    record { rises = sorted_write s.pairs.items _ c.args.key (Some c.args.value) s.rises (omega arith) new; fits = s.fits }

pub returns : goal.returns
returns g c =
    let s = c.args.self.now in
    let is = sym (was_ok c.find.result _ _ c.in_ok-at.ensures.cases c.in_ok-at.at (λ j e. cc) (λ j never. never)) ∙ c.find.ensures.value in
    let new = change_there s.pairs.items s.rises c.args.key _ _ c.args.value is refl in
    let free = change_free (held_as s.pairs.items s.places) c.args.key c.args.value (there s.pairs.items s.rises c.args.key _ is).0 in
    record { answer = free.0; after = ap (λ ps. held_as ps s.places) new ∙ free.1 }
