use Rattle.std.proofs.Common.{◌≡◌, ℕ, ◌≤◌, length, take, ap, ◌∙◌, arith, length-take}
use Rattle.text.specs.Line.{unfilled}
use Rattle.text.proofs.Lines.{unfilled_le}
use Rattle.lines.specs.Line.{symbol_text}
use Rattle.lines.proofs.Putting.{take_min}
use Rattle.lines.proofs.pen.unfilled.Goals as goal

pub returns : goal.returns
returns c =
    let s = c.args.bytes.now in
    let e : take c.min.result s ≡ take 8 s = ap (λ (k : ℕ). take k s) c.min.ensures ∙ take_min 8 s in
    let v = c.symbol_len.ensures.front ∙ ap unfilled e in
    let short : length (symbol_text s) ≤ 8 = omega (arith, unfilled_le (take 8 s), length-take 8 s) in
    record { value = v; bound = omega (arith, ap length v) }
