use Rattle.std.proofs.Common.{None, ◌∙◌, rules}
use Rattle.std.proofs.lemmas.Iterator.Consumers.{fold_from_yields_List}
use Rattle.std.proofs.lemmas.Iterator.Adapters.{YieldsList-from_rev_slice}
use Rattle.loose.specs.Slots.{closer}
use Rattle.loose.proofs.Scans.{from_fold}
use Rattle.loose.proofs.scan.first_from.Goals as goal

pub returns : goal.returns
returns g c =
    fold_from_yields_List _ (λ best s. closer best s c.args.key) None c.fold.result c.fold.ensures.ran (YieldsList-from_rev_slice c.args.slots.now (cc)) (λ best s next f called. search rules)
    ∙ from_fold c.args.slots.now c.args.key
