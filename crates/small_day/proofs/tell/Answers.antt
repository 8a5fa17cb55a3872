use Rattle.std.proofs.Common.{Ok, refl, rules}
use Rattle.std.proofs.lemmas.Result.{err_from_is_err_and}
use Rattle.day.proofs.Fronts.{ends_within}
use Rattle.small_day.specs.SmallDay.{Told, text}
use Rattle.small_day.proofs.tell.Goals as goal

pub returns-in_err-stocks : goal.returns-in_err-stocks
returns-in_err-stocks c =
    let p = err_from_is_err_and c.from_residual.result c.from_residual.ensures.1 in rw (p.1, p.2) (record { told = refl; within = tt })

pub returns-in_err-orders : goal.returns-in_err-orders
returns-in_err-orders c =
    let p = err_from_is_err_and c.from_residual-in_err-orders.result c.from_residual-in_err-orders.ensures.1 in rw (p.1, p.2) (record { told = refl; within = tt })

pub returns-in_err-trades : goal.returns-in_err-trades
returns-in_err-trades c =
    let p = err_from_is_err_and c.from_residual-in_err-trades.result c.from_residual-in_err-trades.ensures.1 in rw (p.1, p.2) (record { told = refl; within = tt })

pub returns : goal.returns
returns c =
    let t : Told c.args.capture.now c.args.buf.now (Ok c.in_ok-told.field-0) c.run-told.new.buf = search rules in
    record { told = t; within = ends_within (text c.args.capture.now) c.args.buf.now c.in_ok-told.field-0 t.0 }
