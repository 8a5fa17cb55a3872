use Rattle.std.proofs.Common.{sym, ◌∙◌}
use Rattle.ordered.proofs.Found.{ok_is}
use Rattle.own_store.proofs.Places.{value_there}
use Rattle.own_store.proofs.OwnStoreStore.get.Goals as goal

pub returns : goal.returns
returns g c =
    let s = c.args.self.now in
    value_there s.pairs.items s.rises c.args.key c.in_ok-at.at c.index.result.now c.index.ensures
    (sym (ok_is c.find.result c.in_ok-at.at c.in_ok-at.ensures.value) ∙ c.find.ensures.value)
