use Rattle.store.proofs.Scan.{onward_zero}
use Rattle.store.proofs.Walks.{rest_runs}
use Rattle.store.proofs.iter.pairs.Goals as goal

pub returns : goal.returns
returns g c = record { all = onward_zero (g.S.Holds.held c.args.store.now).pairs; runs = rest_runs }
