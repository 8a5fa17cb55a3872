use Rattle.std.proofs.Common.{◌+◌, ◌-◌, ◌<◌, length, sym, ◌∙◌, arith}
use Rattle.std.proofs.lemmas.Bool.{leb-true, leb-false}
use Rattle.book.specs.Report.{report}
use Rattle.engine.specs.Engine.{engine_book}
use Rattle.day.specs.Texts.{front_text}
use Rattle.day.proofs.Fronts.{short_of_both, both}
use Rattle.day.proofs.texts.put_day.Goals as goal
use Rattle.day.proofs.texts.put_day.Goals.{then-len-width-via-then-len-width, then-len-width-via-else-len-width+then-not-fits}

pub returns-then-len-width : goal.returns-then-len-width
returns-then-len-width g c =
    let front = front_text c.args.fault in
    let rest = report (engine_book g.S.Holds g.O.Holds g.M.Holds c.args.engine.now) in
    let is = c.front_width-width.ensures in
    let l : length c.args.buf.now < length front + length rest = elim c.then-len-width.branch [
      | then-len-width-via-then-len-width w ↦ omega (arith, w.if-len-width.true)
      | then-len-width-via-else-len-width+then-not-fits w ↦
          omega (arith, w.if-len-width.false, leb-false (length rest) (length c.args.buf.now - c.front_width-width.result) (sym w.fits.ensures ∙ w.if-not-fits.true))
    ] in
    let r = short_of_both front rest c.args.buf.now l in
    record { answer = r.0; after = r.1 }

pub returns : goal.returns
returns g c =
    let front = front_text c.args.fault in
    let rest = report (engine_book g.S.Holds g.O.Holds g.M.Holds c.args.engine.now) in
    let is = c.front_width-width.ensures in
    let fit = leb-true (length rest) (length c.args.buf.now - c.front_width-width.result) (sym c.fits.ensures ∙ c.if-not-fits.false) in
    let r = both front rest c.args.buf.now _ _ c.front_width-width.result _ is (omega arith) c.put_front.ensures c.put_lines.ensures.end c.put_lines.ensures.after in
    record { answer = r.0; after = r.1 }
