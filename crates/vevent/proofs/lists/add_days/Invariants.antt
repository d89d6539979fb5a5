-- What the loop keeps: the check does not find an invariant, nor a measure.
use Rattle.std.proofs.Common.{◌≡◌, length}
use Rattle.text.specs.Pieces.{pieces, ahead}
use Rattle.vevent.specs.Lists.{days_among}
use Rattle.vevent.proofs.Filling.{filled}
use Rattle.vevent.proofs.lists.add_days.Given as goal

-- the days so far, with those of the texts to come for which there is room
abbrev pub invariant-loop-date : goal.invariant-loop-date
invariant-loop-date g l = filled g.row.N l.days (days_among (ahead g.B.Bytes.left l.date-iterator)) ≡ filled g.row.N l.fn.days (days_among (pieces 44 (g.B.Bytes.left l.fn.list)))

abbrev pub decreases-loop-date : goal.decreases-loop-date
decreases-loop-date g l = length (ahead g.B.Bytes.left l.date-iterator)
