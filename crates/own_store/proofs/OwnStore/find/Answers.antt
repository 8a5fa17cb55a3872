use Rattle.std.proofs.Common.{rules}
use Rattle.std.proofs.lemmas.List.Sorted.{answers_always}
use Rattle.ordered.proofs.Found.{found_by_key}
use Rattle.own_store.specs.PairsLemmas.{rising}
use Rattle.own_store.proofs.OwnStore.find.Goals as goal

-- the closure gives a pair's key, and the slice is the store's pairs
pub returns-clause-value : goal.returns-clause-value
returns-clause-value g c =
    let s = c.args.self.now in
    let facts = c.binary_search_by_key.ensures in
    let by_key = facts.position (λ pair. pair.0) (answers_always _ _ _ (λ f a r h called. search rules)) in
    rw (← c.deref.ensures.value) (found_by_key c.deref.result.now (rw c.deref.ensures.value (rising 0 s.pairs.items s.rises)) c.args.key c.binary_search_by_key.result facts.bound by_key)
