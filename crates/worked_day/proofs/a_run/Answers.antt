use Rattle.std.proofs.Common.{refl}
use Rattle.worked_day.proofs.a_run.Goals as goal

pub returns : goal.returns
returns c =
    record {
      empty_refused = refl;
      third_refused = refl;
      fourth_counted = refl;
      accepted = refl;
      open_before = refl;
      open_after = refl;
      volume_after = refl;
      quote_after = refl;
    }
