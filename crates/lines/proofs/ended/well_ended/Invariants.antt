-- The check finds neither: how the rest ends decides, and each turn leaves fewer bytes.
use Rattle.std.proofs.Common.{◌≡◌, length}
use Rattle.lines.specs.Ended.{proper, well_ended}
use Rattle.lines.proofs.ended.well_ended.Given as goal

abbrev pub invariant-loop-rest : goal.invariant-loop-rest
invariant-loop-rest l = proper l.ended l.rest ≡ well_ended l.file

abbrev pub decreases-loop-rest : goal.decreases-loop-rest
decreases-loop-rest l = length l.rest
