-- the buffer has room for a line, so each turn lists a message
use Rattle.std.proofs.Common.{◌-◌, ◌≤◌, vec_len}
use Rattle.lists.proofs.one.Given as goal

abbrev pub invariant-loop-listing : goal.invariant-loop-listing
invariant-loop-listing l = 256 ≤ vec_len l.page

abbrev pub decreases-loop-listing : goal.decreases-loop-listing
decreases-loop-listing l = l.listing.count - l.listing.next
