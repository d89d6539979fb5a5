-- What the loop keeps: the check does not find an invariant.
use Rattle.std.proofs.Common.{take, vec_items}
use Rattle.listing.specs.Lines.{Lines}
use Rattle.listing.specs.Texts.{DayLine}
use Rattle.listing.proofs.event_days.day_lines.Given as goal

-- the lines of the days so far
abbrev pub invariant-loop-day : goal.invariant-loop-day
invariant-loop-day l = Lines (DayLine l.number) (take l.day-index l.days) (vec_items l.text)
