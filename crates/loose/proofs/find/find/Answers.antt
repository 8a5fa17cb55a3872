use Rattle.std.proofs.Common.{length, refl}
use Rattle.loose.specs.Gathers.{gathered_full}
use Rattle.loose.proofs.Homes.{absent, all_held, held_here, free_here}
use Rattle.loose.proofs.find.find.Goals as goal

pub returns-then-is_some : goal.returns-then-is_some
returns-then-is_some g c =
    let ss = c.args.slots.now in
    let at = c.in-Some.ensures in
    (held_here ss c.args.key c.in-Some.at c.index-slots-at.result at.0 at.1 c.index-slots-at.is c.if-is_some.ensures, at)

pub returns-else-is_some : goal.returns-else-is_some
returns-else-is_some g c =
    let ss = c.args.slots.now in
    let at = c.in-Some.ensures in
    let free = free_here ss c.in-Some.at c.index-slots-at.result at.0 c.index-slots-at.is c.if-is_some.ensures in
    (absent (length ss) ss c.args.key c.in-Some.at refl c.requires.2 at free, free, at)

pub returns-in_default : goal.returns-in_default
returns-in_default g c =
    let ss = c.args.slots.now in
    let all = all_held (length ss) ss c.args.key refl c.in_default.ensures in
    (all.1, gathered_full ss c.requires.1 all.0)
