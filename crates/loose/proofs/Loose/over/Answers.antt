use Rattle.std.proofs.Common.{length, sym, ap, arith}
use Rattle.std.proofs.lemmas.List.{length-take}
use Rattle.loose.proofs.Rows.{emptied}
use Rattle.loose.proofs.Loose.over.Goals as goal

pub invariant_of-result : goal.invariant_of-result
invariant_of-result g c =
    let none = emptied c.wipe.new.slots c.wipe.ensures (omega (arith, c.wipe.auto.slots, length-take c.min-n.result c.args.slots.now)) in
    record { tidy = none.0; counted = ap length (sym none.1) }
