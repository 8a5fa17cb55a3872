use Rattle.std.proofs.Common.{◌≡◌, ℕ, ◌-◌, ◌<◌, List, Ok, Err, sym, ap, ◌∙◌, arith, rules}
use Rattle.std.proofs.lemmas.Result.{err_from_is_err_and}
use Rattle.capture.specs.declared.judged.Capture.{Capture}
use Rattle.capture.specs.Index.{message}
use Rattle.book.specs.declared.fault.FeedFault.{FeedFault}
use Rattle.book.specs.declared.fault.PlayFault.TheVariants.{Message}
use Rattle.book.specs.Play.{played}
use Rattle.engine.specs.Engine.{engine_book}
use Rattle.day.proofs.Played.{goes, stops, starts, ends, refused_by}
use Rattle.day.proofs.playing.play.Goals as goal

pub loop-pair-init : goal.loop-pair-init
loop-pair-init g c = search rules

pub loop-pair-preserved : goal.loop-pair-preserved
loop-pair-preserved g c =
    let s = c.loop-pair.pair-iterator in
    let i = c.loop-pair.invariant in
    let st = c.in-Some.ensures.steps in
    let n = c.in_ok-capture.capture.count in
    let counts : s.capture.count ≡ n = ap (λ (x : Capture). x.count) i.0 in
    let more : s.pair < n = omega (arith, st.0, counts) in
    let is : c.in-Some.message.now ≡ message c.in_ok-capture.capture.bytes.now s.pair = st.2 ∙ ap (λ (x : Capture). message x.bytes.now s.pair) i.0 in
    let fed : Ok c.in_ok-map_err.field-0 ≡ c.feed.result = grind (arith, c.map_err.ensures, c.in_ok-map_err.was) in
    let on = goes c.in_ok-capture.capture.bytes.now _ n c.args.start s.pair _ _ i.1 more is c.feed.ensures.after _ (fed ∙ c.feed.ensures.answer) in
    (st.3 ∙ i.0, omega (arith, st.4, i.1), omega (arith, st.4, more), rw st.4 (sym on ∙ i.3))

pub returns-in_err-map_err : goal.returns-in_err-map_err
returns-in_err-map_err g c =
    let s = c.loop-pair.pair-iterator in
    let i = c.loop-pair.invariant in
    let st = c.in-Some.ensures.steps in
    let cap = c.in_ok-capture.capture in
    let more : s.pair < cap.count = omega (arith, st.0, ap (λ (x : Capture). x.count) i.0) in
    let is : c.in-Some.message.now ≡ message cap.bytes.now s.pair = st.2 ∙ ap (λ (x : Capture). message x.bytes.now s.pair) i.0 in
    let p = err_from_is_err_and c.from_residual-in_err-map_err.result c.from_residual-in_err-map_err.ensures.1 in
    let stop : (f : FeedFault) → c.feed.result ≡ Err f → played (engine_book g.S.Holds g.O.Holds g.M.Holds c.args.engine.now) c.args.capture.now c.args.start ≡ (Err (Message s.pair f), engine_book g.S.Holds g.O.Holds g.M.Holds c.feed.new.self) =
    λ f e.
    ap (λ (bytes : List ℕ). played (engine_book g.S.Holds g.O.Holds g.M.Holds c.args.engine.now) bytes c.args.start) (sym c.in_ok-capture.ensures.bytes)
    ∙ starts (engine_book g.S.Holds g.O.Holds g.M.Holds c.args.engine.now) cap.bytes.now c.args.start cap.count (sym cap.judged) (omega (arith, c.if-start-count.false, c.count.ensures))
    ∙ sym i.3
    ∙ stops cap.bytes.now _ cap.count c.args.start s.pair _ _ i.1 more is c.feed.ensures.after f (sym e ∙ c.feed.ensures.answer) in
    let by = refused_by c.feed.result c.map_err.result c.in_err-map_err.field-0.0 c.map_err.ensures.variant c.in_err-map_err.was in
    let told : (f : FeedFault) → c.feed.result ≡ Err f → c.in_err-map_err.field-0.0 ≡ Message c.in-Some.pair f = λ f e. grind (arith, c.map_err.ensures, c.in_err-map_err.was) in
    let all = stop by.0 by.1 in
    let e : c.in_err-map_err.field-0.0 ≡ Message s.pair by.0 = told by.0 by.1 ∙ ap (λ k. Message k by.0) st.1 in
    record { answer = rw (p.1, p.2, e) (sym (ap (λ x. x.0) all)); after = sym (ap (λ x. x.1) all) }

pub returns : goal.returns
returns g c =
    let i = c.loop-pair.invariant in
    let cap = c.in_ok-capture.capture in
    let at_end : c.loop-pair.pair-iterator.pair ≡ cap.count = omega (arith, i.2, c.in-None.ensures.steps.0, ap (λ (x : Capture). x.count) i.0) in
    let all : played (engine_book g.S.Holds g.O.Holds g.M.Holds c.args.engine.now) c.args.capture.now c.args.start ≡ (Ok (cap.count - c.args.start), engine_book g.S.Holds g.O.Holds g.M.Holds c.loop-pair.engine) =
    ap (λ (bytes : List ℕ). played (engine_book g.S.Holds g.O.Holds g.M.Holds c.args.engine.now) bytes c.args.start) (sym c.in_ok-capture.ensures.bytes)
    ∙ starts (engine_book g.S.Holds g.O.Holds g.M.Holds c.args.engine.now) cap.bytes.now c.args.start cap.count (sym cap.judged) (omega (arith, c.if-start-count.false, c.count.ensures))
    ∙ sym i.3
    ∙ ends cap.bytes.now cap.count c.args.start c.loop-pair.pair-iterator.pair (engine_book g.S.Holds g.O.Holds g.M.Holds c.loop-pair.engine) at_end in
    record { answer = rw c.count-2.ensures (sym (ap (λ x. x.0) all)); after = sym (ap (λ x. x.1) all) }
