-- The check finds neither: what the walk keeps of the lines, and that each turn leaves fewer.
use Rattle.std.proofs.Common.{◌≡◌, ◌+◌, ◌≤◌, length}
use Rattle.lines.specs.View.{view}
use Rattle.components.specs.Events.{own, picked}
use Rattle.components.proofs.events.first_named.Given as goal

abbrev pub invariant-loop-line : goal.invariant-loop-line
invariant-loop-line l = (picked l.name (own l.depth (view l.lines)) ≡ picked l.name (own 0 (view l.initial.lines))) × (l.depth + length (view l.lines) ≤ length (view l.initial.lines))

abbrev pub decreases-loop-line : goal.decreases-loop-line
decreases-loop-line l = length (view l.lines)
