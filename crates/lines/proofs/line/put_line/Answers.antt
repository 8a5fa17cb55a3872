use Rattle.std.proofs.Common.{◌≡◌, ℕ, ◌+◌, ◌≤◌, List, [], ◌∷◌, ◌++◌, length, codes, decimal, ap, ◌∙◌, arith, rules}
use Rattle.decode.specs.Decoding.{told_in}
use Rattle.text.specs.Placed.{written}
use Rattle.lines.specs.Line.{decoded_text, line, joined}
use Rattle.lines.specs.Writing.{Spot, puts}
use Rattle.lines.proofs.Putting.{puts-append, joined-append, puts_written}
use Rattle.lines.proofs.line.put_line.Goals as goal

pub returns-clause-lined : goal.returns-clause-lined
returns-clause-lined c =
    let d = told_in c.args.decoded.now in
    let first = decimal c.args.pair in
    let ts = decoded_text d in
    let whole : puts (c.args.buf.now, c.args.at) (first ∷ (ts ++ (codes "\n" ∷ []))) ≡ (c.plain.new.self.buf.now, c.plain.new.self.at) =
    ap (λ (s : Spot). puts s (ts ++ (codes "\n" ∷ []))) c.number.ensures.writes.0
    ∙ puts-append _ ts (codes "\n" ∷ [])
    ∙ ap (λ (s : Spot). puts s (codes "\n" ∷ [])) c.body.ensures.writes.0
    ∙ c.plain.ensures.writes.0 in
    let same : joined (first ∷ (ts ++ (codes "\n" ∷ []))) ≡ line c.args.pair d = ap (λ (x : List ℕ). first ++ x) (joined-append ts (codes "\n" ∷ [])) in
    let within : c.plain.new.self.at ≤ length c.args.buf.now = omega (arith, c.plain.ensures.end, c.body.ensures.bound, c.number.ensures.bound) in
    let at = puts_written _ _ _ _ (first ∷ (ts ++ (codes "\n" ∷ []))) whole within in
    let all : c.plain.new.self.buf.now ≡ written c.args.buf.now c.args.at (line c.args.pair d) = at.1 ∙ ap (written c.args.buf.now c.args.at) same in
    let kept = c.plain.ensures.writes.2 ∙ c.body.ensures.writes.2 ∙ c.number.ensures.writes.2 in
    (omega arith, at.0 ∙ ap (λ (x : List ℕ). c.args.at + length x) same, search (rules, all, kept))
