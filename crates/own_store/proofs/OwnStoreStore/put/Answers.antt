use Rattle.std.proofs.Common.{◌≡◌, Some, vec_items, ap, ◌∙◌, arith}
use Rattle.store.specs.Held.{write}
use Rattle.ordered.specs.Ranks.{from_err}
use Rattle.store.proofs.Writes.{put_free}
use Rattle.own_store.specs.Pairs.{held_as}
use Rattle.own_store.specs.PairsLemmas.{sorted_write}
use Rattle.own_store.proofs.Places.{put_there}
use Rattle.own_store.proofs.OwnStoreStore.put.Given as given
use Rattle.own_store.proofs.OwnStoreStore.put.Goals as goal
use Rattle.own_store.proofs.OwnStoreStore.put.Goals.{After-insert}

-- there is room, so the pair goes in
new : (g : given.Over) (c : After-insert g) → vec_items c.insert.new.self ≡ write c.args.self.now.pairs.items c.args.key (Some c.args.value)
new g c =
    let s = c.args.self.now in
    put_there s.pairs.items s.rises c.args.key _ _ c.args.value _ c.in-Err.ensures.value (c.insert.ensures.succeeds (omega arith)) c.insert.ensures.items

pub invariant_of-self : goal.invariant_of-self
invariant_of-self g c =
    let s = c.args.self.now in
    let longer = rw (c.insert.ensures.succeeds (omega arith)) at c.insert.ensures.len in
    record {
      rises = sorted_write s.pairs.items _ c.args.key (Some c.args.value) s.rises (omega arith) (new g c);
      fits = (omega arith, omega arith, omega arith);
    }

pub returns : goal.returns
returns g c =
    let s = c.args.self.now in
    let gone = from_err s.pairs.items c.args.key _ c.in-Err.ensures.value in
    let free = put_free (held_as s.pairs.items s.places) c.args.key c.args.value gone.1 (λ full. omega arith) in
    record { answer = free.0; after = ap (λ ps. held_as ps s.places) (new g (goal.at.returns g c).After-insert) ∙ free.1 }
