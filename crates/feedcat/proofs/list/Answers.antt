use Rattle.std.proofs.Common.{◌≡◌, ◌<◌, ◌≤◌, length, sym, ap, ◌∙◌, arith}
use Rattle.listing.specs.Paging.{total}
use Rattle.listing.proofs.Paging.{page_some}
use Rattle.feedcat.proofs.list.Goals as goal

pub loop-listing-smaller : goal.loop-listing-smaller
loop-listing-smaller c =
    let l = c.loop-listing.listing in
    let n = c.fill-len.new.self in
    let room = c.deref_mut-in-loop-listing.result.now in
    let same : n.count ≡ l.count = n.whole ∙ ap total c.fill-len.ensures.capture ∙ sym l.whole in
    let more : l.next < total l.capture.now = omega (arith, l.whole) in
    let wide : 256 ≤ length room = omega (arith, c.deref_mut-in-loop-listing.ensures.len) in
    let some = page_some l.feed l.capture.now l.next (length room) more wide in
    let within = n.within in
    let next = c.fill-len.ensures.next in
    omega arith
