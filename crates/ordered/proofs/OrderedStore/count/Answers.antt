use Rattle.std.proofs.Common.{arith}
use Rattle.std.proofs.lemmas.List.{length-take}
use Rattle.ordered.specs.Rows.{front}
use Rattle.ordered.specs.SlotsLemmas.{length_pairs}
use Rattle.ordered.proofs.OrderedStore.count.Goals as goal

pub returns : goal.returns
returns g c =
    let table = c.args.self.now in
    let n = length-take table.len table.slots.now in
    let m = length_pairs 0 (front table.slots.now table.len) table.kept.1 in
    let fits = table.kept.0 in
    omega arith
