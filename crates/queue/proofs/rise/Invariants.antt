-- What the loop keeps: the check does not find an invariant, nor a measure.
use Rattle.std.proofs.Common.{◌-◌, ◌<◌, length}
use Rattle.std.specs.List.Sorted.{IsPermutation}
use Rattle.queue.specs.Heap.{Heaped}
use Rattle.queue.specs.Steps.{HeapedBut, Leads}
use Rattle.queue.proofs.rise.Given as goal

abbrev pub invariant-loop-j : goal.invariant-loop-j
invariant-loop-j g l =
    let before = g.T.Entry.before in
    let n = length l.initial.front in
    (l.j < n) × IsPermutation l.initial.front l.front
    × (Heaped before l.initial.front (n - 1) → HeapedBut before l.front l.j n × Leads before l.front l.j l.j n)

abbrev pub decreases-loop-j : goal.decreases-loop-j
decreases-loop-j g l = l.j
