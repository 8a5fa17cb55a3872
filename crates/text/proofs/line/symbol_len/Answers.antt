use Rattle.std.proofs.Common.{ℕ, length, take, ap, ◌∙◌, arith}
use Rattle.std.specs.Option.{unwrap_or}
use Rattle.text.proofs.Lines.{length-unfilled, unfilled_le, take-unfilled}
use Rattle.text.proofs.line.symbol_len.Goals as goal

pub returns : goal.returns
returns c =
    let s = c.args.symbol.now in
    let e = c.unwrap_or.ensures ∙ ap (λ o. unwrap_or o (length s)) c.first_space.ensures ∙ length-unfilled s in
    record { value = e; front = ap (λ (n : ℕ). take n s) e ∙ take-unfilled s; bound = omega (arith, e, unfilled_le s) }
