use Rattle.std.proofs.Common.{◌≡◌, ℕ, suc, ◌+◌, ◌-◌, ◌<◌, arith, rules}
use Rattle.store.specs.Held.{Held, find}
use Rattle.book.specs.declared.value.Trade.{Trade}
use Rattle.book.specs.Trace.{walk, look}
use Rattle.engine.proofs.making.Engine.followed.Goals as goal

-- one look, and the rest of the walk
walk_more : (h : Held Trade) (count n k : ℕ) → k < count → walk h (count - k) n k ≡ look n k (find h n) (λ m. walk h (count - (k + 1)) m (k + 1))
walk_more h count n k lt =
    let e : count - k ≡ suc (count - (k + 1)) = omega arith in
    rw e

pub returns-in_err-next : goal.returns-in_err-next
returns-in_err-next g c = search (rules, walk_more)

pub returns-in_default : goal.returns-in_default
returns-in_default g c = search (rules, walk_more)

pub loop-steps-preserved : goal.loop-steps-preserved
loop-steps-preserved g c = search (rules, walk_more)
