-- The check does not find it: the days of a series between two days are of the range.
use Rattle.std.proofs.Common.{◌∙◌}
use Rattle.listing.proofs.Ranged.{all_ranged}
use Rattle.listing.proofs.event_days.event_days.Goals as goal

pub day_lines-requires : goal.day_lines-requires
day_lines-requires g c = all_ranged _ c.args.first c.args.last _ (c.as_slice.ensures.value ∙ c.in_ok-days-in-Ok.ensures)
