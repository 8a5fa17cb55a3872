use Rattle.std.proofs.Common.{◌≡◌, ℕ, ◌+◌, ◌-◌, length, take, drop, sym, ap, ◌∙◌, arith}
use Rattle.text.specs.declared.line.Line.{Line}
use Rattle.text.specs.Line.{line}
use Rattle.text.specs.Placed.{written}
use Rattle.text.proofs.Writes.{stands_none}
use Rattle.day.proofs.Reports.{text_of, line_at, is_placed, placed_as, has_room, stands_on, rest_on, stands_whole}
use Rattle.day.proofs.reporting.put_lines.Goals as goal

pub loop-locate-init : goal.loop-locate-init
loop-locate-init g c =
    let r = text_of (g.S.Holds.held c.args.engine.now.ledger.stocks).pairs in
    let z : c.args.start - c.args.start ≡ 0 = omega arith in (
      omega arith,
      omega arith,
      (stands_none c.args.buf.now c.args.start).bytes ∙ ap (λ (i : ℕ). written c.args.buf.now c.args.start (take i r)) (sym z),
      ap (λ (i : ℕ). drop i r) z ∙ sym (ap text_of (c.into_iter-locate-iterator.ensures.into_iter_gives ∙ c.stocks-locate-items.ensures.all)),
    )

pub unwrap-at-requires : goal.unwrap-at-requires
unwrap-at-requires g c =
    let inv = c.loop-locate.invariant in
    let l = line_at (c.in-Some.locate, c.in-Some.stock) in
    let n = ap (λ (l : Line). length (line l)) c.line_of.ensures in
    let rest = inv.3 ∙ ap text_of c.in-Some.ensures.steps in
    let room = has_room (text_of (g.S.Holds.held c.args.engine.now.ledger.stocks).pairs) l (text_of c.next.new.self) c.args.buf.now c.loop-locate.buf c.args.start c.loop-locate.at 0 inv.0 inv.1 inv.2 rest in
    is_placed _ _ _ _ _ c.put.ensures (omega (arith, room, n, c.requires, c.loop-locate.auto.buf))

pub loop-locate-preserved : goal.loop-locate-preserved
loop-locate-preserved g c =
    let inv = c.loop-locate.invariant in
    let l = line_at (c.in-Some.locate, c.in-Some.stock) in
    let r = text_of c.next.new.self in
    let report = text_of (g.S.Holds.held c.args.engine.now.ledger.stocks).pairs in
    let b = c.args.buf.now in
    let put = placed_as _ _ _ _ _ c.unwrap-at.result c.put.ensures c.unwrap-at.ensures in
    let ends = put.0 ∙ ap (λ (l : Line). c.loop-locate.at + length (line l)) c.line_of.ensures in
    let after = put.1 ∙ ap (λ (l : Line). written c.loop-locate.buf c.loop-locate.at (line l)) c.line_of.ensures in
    let rest = inv.3 ∙ ap text_of c.in-Some.ensures.steps in
    let room = has_room report l r b c.loop-locate.buf c.args.start c.loop-locate.at c.unwrap-at.result inv.0 inv.1 inv.2 rest in
    let on = stands_on report l r b c.loop-locate.buf c.args.start c.loop-locate.at c.unwrap-at.result inv.0 inv.1 inv.2 rest c.requires ends _ after in
    let left = rest_on report l r b c.loop-locate.buf c.args.start c.loop-locate.at c.unwrap-at.result inv.0 inv.1 inv.2 rest c.requires ends _ after in
    (omega (arith, ends, inv.0), omega (arith, ends, room), on, left)

pub returns : goal.returns
returns g c =
    let inv = c.loop-locate.invariant in
    let w = stands_whole (text_of (g.S.Holds.held c.args.engine.now.ledger.stocks).pairs) c.args.buf.now c.loop-locate.buf c.args.start c.loop-locate.at inv.0 inv.1 inv.2 (inv.3 ∙ ap text_of c.in-None.ensures.steps.0) in
    record { end = w.0; after = w.1 }
