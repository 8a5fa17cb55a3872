use Rattle.std.proofs.Common.{◌/◌, [], length, ◌∙◌, arith}
use Rattle.capture.proofs.Entries.{starts, ends}
use Rattle.capture.proofs.Found.{found_as}
use Rattle.capture.proofs.parts.message.Goals as goal

pub returns : goal.returns
returns c =
    let part = c.in_ok-get.ensures.lookup in
    let entry = c.in_ok-get-2.ensures.lookup in
    let bytes = c.args.bytes.now in
    let index = c.in_ok-get.field-0.now in
    let entries = c.as_chunks.result.0.now in
    let k = c.args.pair in
    let cut = c.as_chunks.ensures.front in
    let s = c.span-start.ensures.start ∙ starts bytes index c.in_ok-get-2.field-0.now entries (length bytes) (length index / 6) k [] part.0.2 cut (omega arith) (omega arith) (entry.3.1 []) in
    let e = c.span-start.ensures.end ∙ ends bytes index c.in_ok-get-2.field-0.now entries (length bytes) (length index / 6) k [] part.0.2 cut (omega arith) (omega arith) (entry.3.1 []) in
    found_as bytes k _ _ c.get-3.result (omega arith) s e c.get-3.ensures.lookup.0
