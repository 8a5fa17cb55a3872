use Rattle.loose.proofs.Holes.{mover_held}
use Rattle.loose.proofs.close.mover.Goals as goal

pub returns : goal.returns
returns g c =
    let ss = c.args.slots.now in
    mover_held ss c.args.hole c.in_ok-at.at c.requires c.in_ok-at.ensures c.index-slots-at.result c.and.result c.index-slots-at.is c.and.ensures
