use Rattle.std.proofs.Common.{ap, ◌∙◌}
use Rattle.text.specs.declared.fault_line.FaultLine.{FaultLine}
use Rattle.text.specs.FaultLine.{fault_line}
use Rattle.day.specs.Texts.{text_after}
use Rattle.day.proofs.Fronts.{placed_after}
use Rattle.day.proofs.texts.put_fault.Goals as goal

pub returns-clause-after : goal.returns-clause-after
returns-clause-after c =
    let l = c.from-line.result in
    placed_after (fault_line l.number l.place l.pair) c.args.buf.now c.put.new.buf c.put.result c.put.ensures
    ∙ ap (λ (l : FaultLine). text_after (fault_line l.number l.place l.pair) c.args.buf.now) c.from-line.ensures
