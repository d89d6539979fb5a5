-- What the loop keeps: the check does not find an invariant, nor a measure.
use Rattle.std.proofs.Common.{◌≡◌, length, take}
use Rattle.vevent.proofs.Filling.{filled}
use Rattle.vevent.proofs.kept.first_bytes.Given as goal

abbrev pub invariant-loop-b : goal.invariant-loop-b
invariant-loop-b g l = filled g.row.N l.bytes l.b-iterator ≡ take g.row.N (g.B.Bytes.left l.fn.text)

abbrev pub decreases-loop-b : goal.decreases-loop-b
decreases-loop-b g l = length l.b-iterator
