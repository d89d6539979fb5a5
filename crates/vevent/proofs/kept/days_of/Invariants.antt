-- What the loop keeps: the check does not find an invariant, nor a measure.
use Rattle.std.proofs.Common.{◌≡◌, length}
use Rattle.vevent.specs.Kept.{days_listed}
use Rattle.vevent.proofs.Filling.{filled}
use Rattle.vevent.proofs.kept.days_of.Given as goal

-- the days so far, with those of the lines to come for which there is room
abbrev pub invariant-loop-line : goal.invariant-loop-line
invariant-loop-line g l = filled g.row.N l.days (days_listed l.line-iterator) ≡ filled g.row.N l.initial.days (days_listed l.initial.line-iterator)

abbrev pub decreases-loop-line : goal.decreases-loop-line
decreases-loop-line g l = length l.line-iterator
