-- The check finds none of these: what a body keeps of the lines, that each turn leaves fewer, and that each level is
-- further in.
use Rattle.std.proofs.Common.{◌≡◌, ◌+◌, ◌-◌, ◌*◌, ◌≤◌, [], length}
use Rattle.lines.specs.View.{view, text}
use Rattle.components.specs.Nest.{walk, kinds}
use Rattle.components.specs.Events.{events}
use Rattle.components.proofs.tree.+body_component.Given as goal

abbrev pub decreases-component : goal.decreases-component
decreases-component l = 2 * (8 - l.opened.depth) + 1

abbrev pub decreases-body : goal.decreases-body
decreases-body l = 2 * (8 - l.opened.depth)

abbrev pub invariant-body-loop-line : goal.invariant-body-loop-line
invariant-body-loop-line l =
    (walk (7 - l.opened.depth) (text l.opened.name) [] (kinds (view l.lines)) ≡ walk (7 - l.opened.depth) (text l.opened.name) [] (kinds (view l.initial.lines)))
    × (l.count + length (events (l.opened.depth + 1) (view l.lines)) ≡ length (events (l.opened.depth + 1) (view l.initial.lines)))
    × (length (view l.lines) ≤ length (view l.initial.lines))

abbrev pub decreases-body-loop-line : goal.decreases-body-loop-line
decreases-body-loop-line l = length (view l.lines)
