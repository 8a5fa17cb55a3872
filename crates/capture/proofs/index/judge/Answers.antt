use Rattle.std.proofs.Common.{◌≡◌, ℕ, ◌+◌, ◌-◌, ◌*◌, ◌/◌, ◌≤◌, length, Ok, refl, sym, ap, ◌∙◌, arith}
use Rattle.std.proofs.lemmas.Bool.{le-ltb}
use Rattle.capture.specs.Index.{count, start, end, judged_from, judged}
use Rattle.capture.proofs.Entries.{counts, starts, ends}
use Rattle.capture.proofs.Laid.{laid}
use Rattle.capture.proofs.Steps.{overlaps, overruns, goes_on, ended}
use Rattle.capture.proofs.index.judge.Goals as goal
use Rattle.capture.proofs.index.judge.Goals.{After-as_chunks, After-span-start}

-- the index has as many entries as its count says, and ends within the bytes
counted : (c : After-as_chunks) →
    (c.from_be_bytes-count.result ≡ count c.args.bytes.now) × (length c.as_chunks.result.0.now ≡ c.from_be_bytes-count.result)
    × (4 + 6 * c.from_be_bytes-count.result ≤ length c.args.bytes.now)
counted c =
    let part = rw c.in_ok-index.ensures.ok_part at c.get.ensures.lookup in
    let head = rw c.in_ok-head.ensures.ok_part at c.first_chunk.ensures.cases in
    let e = counts c.args.bytes.now c.in_ok-head.head.now head.same in
    (omega arith, omega arith, omega arith)

-- where the message of this pair starts and ends
spanned : (c : After-span-start) →
    (c.span-start.result.0 ≡ start c.args.bytes.now c.loop-pair.pair) × (c.span-start.result.1 ≡ end c.args.bytes.now c.loop-pair.pair)
spanned c =
    let part = rw c.in_ok-index.ensures.ok_part at c.get.ensures.lookup in
    let bytes = c.args.bytes.now in
    let index = c.in_ok-index.index.now in
    let entries = c.as_chunks.result.0.now in
    let from = 4 + 6 * c.from_be_bytes-count.result in
    let cut = c.as_chunks.ensures.front in (
      c.span-start.ensures.start ∙ starts bytes index _ entries from (length index / 6) c.loop-pair.pair _ part.0.2 cut (omega arith) (omega arith) refl,
      c.span-start.ensures.end ∙ ends bytes index _ entries from (length index / 6) c.loop-pair.pair _ part.0.2 cut (omega arith) (omega arith) refl,
    )

pub loop-pair-init : goal.loop-pair-init
loop-pair-init c =
    let n = counted (goal.at.loop-pair-init c).After-as_chunks in
    let bytes = c.args.bytes.now in
    let some : 4 ≤ length bytes = omega arith in
    let fits : 4 + 6 * count bytes ≤ length bytes = omega arith in
    let none : length c.as_chunks.result.0.now - 0 ≡ count bytes = omega arith in
    let front : 4 + 6 * c.from_be_bytes-count.result ≡ 4 + 6 * count bytes = omega arith in
    let on : judged bytes ≡ judged_from bytes (count bytes) 0 (4 + 6 * count bytes) = rw (le-ltb (length bytes) 4 some, le-ltb (length bytes) (4 + 6 * count bytes) fits) in
    (ap (λ (k : ℕ). judged_from bytes k 0 (4 + 6 * c.from_be_bytes-count.result)) none ∙ ap (judged_from bytes (count bytes) 0) front ∙ sym on, omega arith, omega arith)

pub returns-then-start-end : goal.returns-then-start-end
returns-then-start-end c =
    let l = c.loop-pair in
    let s = spanned (goal.at.returns-then-start-end c).After-span-start in
    let v = sym (overlaps c.args.bytes.now (length c.as_chunks.result.0.now) l.pair l.end (omega arith) (omega arith)) ∙ l.invariant.0 in
    record { verdict = v; laid = laid c.args.bytes.now _ v }

pub returns-then-bytes-stop : goal.returns-then-bytes-stop
returns-then-bytes-stop c =
    let l = c.loop-pair in
    let s = spanned (goal.at.returns-then-bytes-stop c).After-span-start in
    let v = sym (overruns c.args.bytes.now (length c.as_chunks.result.0.now) l.pair l.end (omega arith) (omega arith) (omega arith)) ∙ l.invariant.0 in
    record { verdict = v; laid = laid c.args.bytes.now _ v }

pub loop-pair-preserved : goal.loop-pair-preserved
loop-pair-preserved c =
    let l = c.loop-pair in
    let s = spanned (goal.at.loop-pair-preserved c).After-span-start in
    let bytes = c.args.bytes.now in
    let n = length c.as_chunks.result.0.now in
    (ap (judged_from bytes (n - (l.pair + 1)) (l.pair + 1)) s.1 ∙ sym (goes_on bytes n l.pair l.end (omega arith) (omega arith) (omega arith)) ∙ l.invariant.0, omega arith, omega arith)

pub returns : goal.returns
returns c =
    let l = c.loop-pair in
    let n = counted (goal.at.returns c).After-as_chunks in
    let v = ap (λ (k : ℕ). Ok k) (sym n.1) ∙ sym (ended c.args.bytes.now (length c.as_chunks.result.0.now) l.pair l.end (omega arith) (omega arith)) ∙ l.invariant.0 in
    record { verdict = v; laid = laid c.args.bytes.now _ v }
