-- What the loop keeps: the check does not find an invariant, nor a measure.
use Rattle.std.proofs.Common.{◌≡◌, ◌≤◌, false, length, take, drop}
use Rattle.std.specs.List.{ContainsAt as Has}
use Rattle.queue.specs.Heap.{Heaped}
use Rattle.queue.proofs.first_from.Given as goal

-- The entries that are left are some of those at the start, and all of those that are not before `from`.
abbrev pub invariant-loop-entry : goal.invariant-loop-entry
invariant-loop-entry g l =
    let before = g.T.Entry.before in
    let all = take l.used l.initial.slots in
    let rest = take l.left l.slots in
    (l.left ≤ l.used) × (l.used ≤ length l.slots) × Heaped before l.slots l.left
    × (drop l.used l.slots ≡ drop l.used l.initial.slots)
    × ((y : g.row.T.Denot) → Has rest y → Has all y)
    × ((y : g.row.T.Denot) → Has all y → before y l.from ≡ false → Has rest y)

abbrev pub decreases-loop-entry : goal.decreases-loop-entry
decreases-loop-entry g l = l.left
