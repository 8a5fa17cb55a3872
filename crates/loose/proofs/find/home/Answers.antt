use Rattle.std.proofs.Common.{refl}
use Rattle.loose.specs.Homes.{home}
use Rattle.loose.proofs.Ways.{home_le}
use Rattle.loose.proofs.find.home.Goals as goal

pub returns : goal.returns
unfolding home
returns c = record { value = refl; within = home_le c.args.key c.args.n }
