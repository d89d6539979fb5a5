-- What the loop keeps: the check does not find an invariant.
use Rattle.std.proofs.Common.{◌≡◌, ◌+◌, take}
use Rattle.days.specs.Months.{total}
use Rattle.days.proofs.months.place_after.Given as goal

abbrev pub invariant-loop-i : goal.invariant-loop-i
invariant-loop-i l = l.past ≡ total (take l.i l.lengths) + l.rest
