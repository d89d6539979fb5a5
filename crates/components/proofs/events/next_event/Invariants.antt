-- The check finds neither: what the walk keeps of the lines, and that each turn leaves fewer.
use Rattle.std.proofs.Common.{◌≡◌, ◌+◌, ◌≤◌, length}
use Rattle.lines.specs.View.{view}
use Rattle.components.specs.Events.{events}
use Rattle.components.proofs.events.next_event.Given as goal

abbrev pub invariant-loop-line : goal.invariant-loop-line
invariant-loop-line l = (events l.depth (view l.lines) ≡ events l.inside (view l.initial.lines)) × (l.depth + length (view l.lines) ≤ 2 + length (view l.initial.lines))
    × (length (view l.lines) ≤ length (view l.initial.lines))

abbrev pub decreases-loop-line : goal.decreases-loop-line
decreases-loop-line l = length (view l.lines)
