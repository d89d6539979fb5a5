-- What the loop keeps: the check does not find a measure.
use Rattle.std.proofs.Common.{◌-◌}
use Rattle.plan_vectors.proofs.records.print_lines.Given as goal

abbrev pub decreases-loop-day : goal.decreases-loop-day
decreases-loop-day g l = 4294967296 - l.from
