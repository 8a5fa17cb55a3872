use Rattle.std.proofs.Common.{◌≡◌, ◌-◌}
use Rattle.listing.proofs.Paging.{Going}
use Rattle.listing.proofs.page.put_page.Given as goal

abbrev pub invariant-loop-pair : goal.invariant-loop-pair
invariant-loop-pair l = (l.page.lines ≡ l.pair - l.start) × Going l.feed l.capture l.start l.initial.buf l.pair l.page.refused l.page.differ l.page.bytes l.buf
