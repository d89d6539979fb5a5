-- What the loop keeps: the check does not find an invariant, nor a measure.
use Rattle.std.proofs.Common.{◌-◌, length}
use Rattle.std.specs.List.Sorted.{IsPermutation}
use Rattle.queue.specs.Steps.{HeapedBut, Follows}
use Rattle.queue.proofs.sink.Given as goal

abbrev pub invariant-loop-j : goal.invariant-loop-j
invariant-loop-j g l =
    let before = g.T.Entry.before in
    let n = length l.initial.front in
    IsPermutation l.initial.front l.front
    × (HeapedBut before l.initial.front 0 n → HeapedBut before l.front l.j n × Follows before l.front l.j)

abbrev pub decreases-loop-j : goal.decreases-loop-j
decreases-loop-j g l = length l.initial.front - l.j
