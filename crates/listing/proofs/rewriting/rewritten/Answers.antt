use Rattle.std.proofs.Common.{◌≤◌, length, sym, refl, arith}
use Rattle.std.proofs.lemmas.Slice.Eq.{slice_eq-Decides}
use Rattle.std.proofs.lemmas.List.{length-take-le}
use Rattle.wire.specs.Told.{told}
use Rattle.listing.proofs.WrittenAgain.{writing_fits, gives_is}
use Rattle.listing.proofs.rewriting.rewritten.Goals as goal
use Rattle.std.proofs.lemmas.Bool.Decides.{Decides-eqb}

pub slice_bounds-buffer-end : goal.slice_bounds-buffer-end
slice_bounds-buffer-end c =
    let few = writing_fits c.args.feed (told c.args.message.now) 43 c.in-Ok.len c.in-Ok.ensures.answer in
    let long = c.write.auto.buffer in
    omega arith

pub slice_bounds-eq-end : goal.slice_bounds-eq-end
slice_bounds-eq-end c =
    let few = writing_fits c.args.feed (told c.args.message.now) 43 c.in-Ok.len c.in-Ok.ensures.answer in
    let long = c.write.auto.buffer in
    let within : c.in-Ok.len ≤ length c.write.new.buffer = omega arith in
    sym (length-take-le c.in-Ok.len c.write.new.buffer within)

pub returns-in-Ok : goal.returns-in-Ok
returns-in-Ok c =
    gives_is c.args.feed (told c.args.message.now) c.args.bytes.now c.write.new.buffer _ c.in-Ok.len c.eq.result
    refl c.write.auto.buffer c.in-Ok.ensures.answer c.in-Ok.ensures.bytes (slice_eq-Decides Decides-eqb _ _ _ c.eq.ensures)
