use Rattle.std.proofs.Common.{◌≡◌, ◌∙◌}
use Rattle.ordered.specs.Slots.{rank}
use Rattle.ordered.specs.Ranks.{from_ok, from_err}
use Rattle.own_store.proofs.Places.{first_at}
use Rattle.own_store.proofs.OwnStoreStore.first_from.Goals as goal
use Rattle.own_store.proofs.OwnStoreStore.first_from.Goals.{in-Ok, in-Ok-2}

pub returns : goal.returns
returns g c =
    let s = c.args.self.now in
    let at_rank : c.match-find.at ≡ rank s.pairs.items c.args.key =
    elim c.match-find.branch [
      | in-Ok w ↦ w.at-is ∙ (from_ok s.pairs.items c.args.key _ w.in-Ok.ensures.value).0
      | in-Ok-2 w ↦ w.at-is ∙ (from_err s.pairs.items c.args.key _ w.in-Ok.ensures.value).0
    ] in
    first_at s.pairs.items s.rises c.args.key c.match-find.at at_rank c.get.result c.copied.result c.copied.ensures (rw c.deref.ensures.value at c.get.ensures.lookup.3)
