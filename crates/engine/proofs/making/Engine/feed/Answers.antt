use Rattle.std.proofs.lemmas.Result.{err_from_is_err_and}
use Rattle.wire.specs.Told.{told}
use Rattle.engine.specs.Engine.{engine_book}
use Rattle.engine.proofs.Fed.{too_many, refused, taken}
use Rattle.engine.proofs.making.Engine.feed.Goals as goal

pub returns-then-self-ge-MOST : goal.returns-then-self-ge-MOST
returns-then-self-ge-MOST g c =
    let r = too_many (engine_book g.S.Holds g.O.Holds g.M.Holds c.args.self.now) c.args.bytes.now (told c.in_ok-message.message) c.in_ok-message.ensures.answer c.if-self-ge-MOST.true in
    record { answer = r.0; after = r.1 }

pub returns-in_err-act : goal.returns-in_err-act
returns-in_err-act g c =
    let p = err_from_is_err_and c.from_residual-in_err-act.result c.from_residual-in_err-act.ensures.1 in
    let r = refused (engine_book g.S.Holds g.O.Holds g.M.Holds c.args.self.now) c.args.bytes.now (told c.in_ok-message.message) c.in_ok-message.ensures.answer
    _ _ c.if-self-ge-MOST.false c.in_err-act.ensures.0 c.in_err-act.ensures.1 in
    record { answer = rw (p.1, p.2) r.0; after = r.1 }

pub returns : goal.returns
returns g c =
    let r = taken (engine_book g.S.Holds g.O.Holds g.M.Holds c.args.self.now) c.args.bytes.now (told c.in_ok-message.message) c.in_ok-message.ensures.answer
    _ c.if-self-ge-MOST.false c.in_ok-act.ensures.0 c.in_ok-act.ensures.1 in
    record { answer = r.0; after = r.1 }
