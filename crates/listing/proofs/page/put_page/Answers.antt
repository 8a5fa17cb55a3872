use Rattle.std.proofs.Common.{◌≡◌, ℕ, ◌-◌, ◌<◌, Bool, cond, length, sym, ap, ◌∙◌, arith}
use Rattle.listing.specs.Paging.{total, how_many, refused_in, page_lines}
use Rattle.listing.specs.Rewriting.{differs}
use Rattle.capture.specs.Index.{messages}
use Rattle.listing.proofs.Agrees.{none_differs}
use Rattle.listing.proofs.Paging.{is_message, never_none, is_err-told, as_number, going_more, going_full, going_stands}
use Rattle.listing.proofs.page.put_page.Goals as goal

pub unreachable-requires : goal.unreachable-requires
unreachable-requires c = never_none c.args.capture.now c.loop-pair.pair (omega arith) c.in_default.ensures

pub loop-pair-preserved : goal.loop-pair-preserved
loop-pair-preserved c =
    let more : c.loop-pair.pair < total c.args.capture.now = omega arith in
    let is = is_message c.args.capture.now c.in-Some.bytes.now c.loop-pair.pair more c.in-Some.ensures in
    let l = c.in-Ok.ensures in
    let b = l.bound in
    let r = l.lined.0 in
    let refused = ap {B = ℕ} (λ (b : Bool). cond b 1 0) (c.is_err.ensures.value ∙ is_err-told c.decode-decoded.result) in
    let other = ap {B = ℕ} (λ (b : Bool). cond b 1 0) c.is_different.ensures in
    (omega arith, going_more _ _ _ _ _ _ _ _ _ c.loop-pair.invariant.1 _ _ _ _ _ _ more (omega arith) is c.decode-decoded.ensures.answer l.lined.1 l.lined.2 (c.from.ensures ∙ as_number c.is_err.result ∙ refused) (c.from-in-loop-pair.ensures ∙ as_number c.is_different.result ∙ other) (omega arith))

pub returns-after-loop-pair-clause-agree : goal.returns-after-loop-pair-clause-agree
returns-after-loop-pair-clause-agree c = c.loop-pair.invariant.1.compares ∙ none_differs c.args.feed c.args.capture.now _ c.args.start (λ i. omega (arith, c.type_inv.capture i))

pub returns-in_default-put_line : goal.returns-in_default-put_line
returns-in_default-put_line c =
    let f = c.args.feed in
    let bytes = c.args.capture.now in
    let buf = c.args.buf.now in
    let inv = c.loop-pair.invariant.1 in
    let short = c.in_default-put_line.ensures.lined in
    let lines : c.loop-pair.pair - c.args.start ≡ page_lines f bytes c.args.start (length buf) =
    going_full f bytes c.args.start buf _ _ _ _ _ inv (omega arith) (let h = short.0 in omega arith) in
    let all = going_stands f bytes c.args.start buf _ _ _ _ _ inv _ lines in
    let from = inv.from in
    let upto = inv.upto in
    let e = c.loop-pair.invariant.0 in
    record { lines = e ∙ lines; within = omega arith; refused = inv.counts ∙ ap (λ (n : ℕ). how_many (refused_in f) (messages bytes c.args.start n)) (sym e); differ = inv.compares ∙ ap (λ (n : ℕ). how_many (differs f) (messages bytes c.args.start n)) (sym e); agree = inv.compares ∙ none_differs f bytes _ c.args.start (λ i. omega (arith, c.type_inv.capture i)); bytes = all.ends ∙ omega arith; bound = inv.fits; after = short.1 ∙ all.bytes }
