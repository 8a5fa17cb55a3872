use Rattle.std.proofs.Common.{None, sym, ap, ◌∙◌, arith, rules}
use Rattle.ordered.specs.Ranks.{from_err}
use Rattle.ordered.proofs.Found.{was_ok, was_err}
use Rattle.store.proofs.Writes.{write_absent}
use Rattle.own_store.specs.Pairs.{held_as}
use Rattle.own_store.specs.PairsLemmas.{sorted_write}
use Rattle.own_store.proofs.Places.{there, out_there}
use Rattle.own_store.proofs.OwnStoreStore.take_out.Goals as goal

pub returns-in_err-at : goal.returns-in_err-at
returns-in_err-at g c =
    let s = c.args.self.now in
    let was = was_err c.find.result _ _ c.in_err-at.ensures.cases (λ j e. cc) in
    let gone = (from_err s.pairs.items c.args.key was.0 (sym was.1 ∙ c.find.ensures.value)).1 in
    record { answer = search rules; after = ap (λ ps. held_as ps s.places) (sym (write_absent s.pairs.items c.args.key gone)) }

pub invariant_of-self : goal.invariant_of-self
invariant_of-self g c =
    let s = c.args.self.now in
    let is = sym (was_ok c.find.result _ _ c.in_ok-at.ensures.cases c.in_ok-at.at (λ j e. cc) (λ j never. never)) ∙ c.find.ensures.value in
    let new = out_there s.pairs.items s.rises c.args.key _ _ is c.remove.ensures.items in
    record { rises = sorted_write s.pairs.items _ c.args.key None s.rises (omega arith) new; fits = (omega arith, omega arith, omega arith) }

pub returns : goal.returns
returns g c =
    let s = c.args.self.now in
    let is = sym (was_ok c.find.result _ _ c.in_ok-at.ensures.cases c.in_ok-at.at (λ j e. cc) (λ j never. never)) ∙ c.find.ensures.value in
    let has = (there s.pairs.items s.rises c.args.key _ is).0 in
    let new = out_there s.pairs.items s.rises c.args.key _ _ is c.remove.ensures.items in
    record { answer = search rules; after = ap (λ ps. held_as ps s.places) new }
