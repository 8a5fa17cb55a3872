use Rattle.std.proofs.Common.{◌≡◌, ◌∷◌, length, sym, ap, ◌∙◌, arith}
use Rattle.store.specs.Left.{left}
use Rattle.store.proofs.Scan.{left_more}
use Rattle.store.proofs.iter.PairIterIterator.next.Goals as goal

pub returns : goal.returns
returns g c =
    let held = g.S.Holds.held c.self.inside.store.now in
    let sound = g.S.Holds.sound c.self.inside.store.now in
    let first : c.args.self.now ≡ c.in_ok-pair.pair ∷ left held.pairs c.checked_add-self-inside.result =
    sym c.self.view_is ∙ ap (left held.pairs) c.in_ok-self.was
    ∙ left_more held.pairs c.in_ok-self.field-0 c.in_ok-pair.pair c.checked_add-self-inside.result sound.rising sound.fit c.in_ok-pair.ensures c.checked_add-self-inside.ensures in
    record { steps = first; goes = record { on = λ _. (tt, tt, omega (arith, ap length first)); keeps = tt; rests = λ _. tt } }
