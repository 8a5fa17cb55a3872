use Rattle.std.proofs.Common.{◌≡◌, ℕ, ◌≤◌, length, rules, List, [], ◌∷◌, ◌++◌, codes, decimal, ap, ◌∙◌, arith}
use Rattle.lines.specs.Writing.{Spot, put, puts}
use Rattle.lines.proofs.Putting.{puts_written}
use Rattle.lines.proofs.summary.put_summary.Goals as goal

pub returns : goal.returns
returns c =
    let buf = c.args.buf.now in
    let second = codes " messages, " ++ decimal c.args.refused in
    let third = codes " refused, " ++ decimal c.args.differ in
    let last = codes " rewritten differ\n" in
    let ts : List (List ℕ) = decimal c.args.messages ∷ second ∷ third ∷ last ∷ [] in
    let whole : puts (buf, 0) ts ≡ (c.plain.new.self.buf.now, c.plain.new.self.at) =
    ap (λ (s : Spot). put (put (put s second) third) last) c.number.ensures.writes.0
    ∙ ap (λ (s : Spot). put (put s third) last) c.number-2.ensures.writes.0
    ∙ ap (λ (s : Spot). put s last) c.number-3.ensures.writes.0
    ∙ c.plain.ensures.writes.0 in
    let within : c.plain.new.self.at ≤ length buf =
    omega (arith, c.plain.ensures.end, c.number.ensures.bound, c.number-2.ensures.bound, c.number-3.ensures.bound, c.number.ensures.writes.1, c.number-2.ensures.writes.1, c.number-3.ensures.writes.1, c.if-buf-lt-LINE.false) in
    let at = puts_written buf _ 0 _ ts whole within in
    let kept = c.plain.ensures.writes.2 ∙ c.number-3.ensures.writes.2 ∙ c.number-2.ensures.writes.2 ∙ c.number.ensures.writes.2 in
    (omega arith, at.0, search (rules, at, kept))
