use Rattle.text.proofs.Digits.{digits}
use Rattle.text.proofs.number.width.Goals as goal

pub returns-clause-value : goal.returns-clause-value
returns-clause-value c =
    digits c.ilog10.result c.args.n c.max.result c.ranges.n.fits c.max.ensures c.ilog10.ensures.power_le c.ilog10.ensures.next_power_gt
