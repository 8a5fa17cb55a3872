use Rattle.capture.proofs.Found.{is_found_as}
use Rattle.capture.proofs.judged.Capture.message.Goals as goal

pub returns-then-pair-self : goal.returns-then-pair-self
returns-then-pair-self c =
    let s = c.args.self.now in
    is_found_as s.bytes.now s.count c.args.pair c.message.result s.judged c.if-pair-self.true c.message.ensures
