use Rattle.std.proofs.Common.{◌++◌, length, decimal, sym, ap, ◌∙◌, append-nil, arith}
use Rattle.std.proofs.lemmas.Fmt.{decimal_nonempty}
use Rattle.std.proofs.lemmas.List.{drop_all}
use Rattle.text.proofs.Digits.{left_more}
use Rattle.text.proofs.number.put_digits.Goals as goal

pub loop-i-init : goal.loop-i-init
loop-i-init c =
    let to = c.args.to.now in
    let some = decimal_nonempty c.args.n (omega arith) in
    ((λ h. (sym c.requires, ap (λ ds. decimal c.args.n ++ ds) (drop_all (length to) to (omega arith)) ∙ append-nil (decimal c.args.n)), λ h. absurd (omega (arith, c.requires))), omega arith)

pub loop-i-preserved : goal.loop-i-preserved
loop-i-preserved c =
    let l = c.loop-i in
    (left_more l.i l.rest c.args.n l.to c.loop-i-test.true (omega arith) (omega arith) l.invariant.0, omega arith)
