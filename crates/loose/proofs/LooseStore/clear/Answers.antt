use Rattle.std.proofs.Common.{length, sym, ap, arith}
use Rattle.loose.proofs.Rows.{emptied}
use Rattle.loose.proofs.LooseStore.clear.Goals as goal

pub invariant_of-self : goal.invariant_of-self
invariant_of-self g c =
    let none = emptied c.wipe.new.slots c.wipe.ensures (omega (arith, c.wipe.auto.slots, c.args.self.now.tidy.0)) in
    record { tidy = none.0; counted = ap length (sym none.1) }
