use Rattle.std.proofs.Common.{arith}
use Rattle.listing.specs.Paging.{refused_in}
use Rattle.listing.specs.Rewriting.{differs}
use Rattle.listing.proofs.Paging.{how_many_split, how_many_few}
use Rattle.listing.proofs.listing.Listing.fill.Goals as goal

pub overflow_add-self-2 : goal.overflow_add-self-2
overflow_add-self-2 c =
    let l = c.args.self.now in
    let few = how_many_few (refused_in l.feed) l.capture.now l.next c.put_page-page.result.lines _ _ l.counted c.put_page-page.ensures.refused in
    omega arith

pub overflow_add-self-3 : goal.overflow_add-self-3
overflow_add-self-3 c =
    let l = c.args.self.now in
    let few = how_many_few (differs l.feed) l.capture.now l.next c.put_page-page.result.lines _ _ l.compared c.put_page-page.ensures.differ in
    omega arith

pub invariant_of-self : goal.invariant_of-self
invariant_of-self c =
    let l = c.args.self.now in
    let n = c.put_page-page.result.lines in
    let counted = how_many_split (refused_in l.feed) l.capture.now l.next n _ _ l.counted c.put_page-page.ensures.refused in
    let compared = how_many_split (differs l.feed) l.capture.now l.next n _ _ l.compared c.put_page-page.ensures.differ in
    let was = l.agree in
    let adds = c.put_page-page.ensures.agree in
    record { whole = l.whole; within = omega arith; counted = counted; agree = omega arith; compared = compared }
