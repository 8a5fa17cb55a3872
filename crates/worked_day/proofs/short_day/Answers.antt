use Rattle.std.proofs.Common.{refl}
use Rattle.std.specs.Fmt.{digits}
use Rattle.worked_day.proofs.short_day.Goals as goal

-- each by computing
pub returns : goal.returns
unfolding digits
returns c = record {
  event_too_early = refl;
  event_due = refl;
  stock_enters = refl;
  stock_halted = refl;
  no_free_place = refl;
  added = refl;
  shares_open = refl;
  quote_opened = refl;
  shares_left = refl;
  volume = refl;
  turnover = refl;
  quote_lowered = refl;
  too_many_shares = refl;
  match_used = refl;
  added_again = refl;
  removed = refl;
  shares_replaced = refl;
  quote_replaced = refl;
  reported = refl;
  volume_corrected = refl;
  turnover_corrected = refl;
  not_live = refl;
  volume_broken = refl;
  traced = refl;
}
