use Rattle.std.proofs.Common.{rules}
use Rattle.std.proofs.lemmas.Fn.{always_returns_same}
use Rattle.ordered.specs.Rows.{front}
use Rattle.ordered.specs.Slots.{against}
use Rattle.ordered.proofs.Found.{found}
use Rattle.ordered.proofs.Ordered.find.Goals as goal

pub returns-clause-value : goal.returns-clause-value
returns-clause-value g c =
    found (front c.args.self.now.slots.now c.args.self.now.len) c.args.self.now.kept.1 c.args.key c.binary_search_by.result c.binary_search_by.ensures.bound
    (c.binary_search_by.ensures.position (λ slot. against slot c.args.key) (always_returns_same _ _ _ (λ a r f called. search rules)))
