-- The check does not find that a year begins after the one before it.
use Rattle.std.proofs.Common.{rules}
use Rattle.calendars.specs.Moons.{new_year_next}
use Rattle.calendars.proofs.hebrew.year_sheet.Goals as goal

pub overflow_sub-next : goal.overflow_sub-next
overflow_sub-next c = let h = new_year_next c.args.year (search rules) in search rules
