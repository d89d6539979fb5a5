-- What the loop keeps: the check does not find an invariant, nor a measure.
use Rattle.std.proofs.Common.{◌≡◌, ◌≤◌, ℕ, length, take, drop}
use Rattle.std.specs.List.{All}
use Rattle.series.specs.Record.{Ready}
use Rattle.heads.specs.Heads.{sets_of, Heads, behind}
use Rattle.heads.proofs.coming.Coming.draw.Given as goal

-- the heads that are left stand for the same lines
abbrev pub invariant-loop-head : goal.invariant-loop-head
invariant-loop-head g l =
    let shelf = g.S.Shelf.held l.self.shelf.now in
    let series = l.self.series.now in
    let sets = sets_of shelf series in
    record {
      within : l.left ≤ l.queued;
      room : l.queued ≤ length l.queue;
      heads : (first : ℕ) → All (Ready shelf) series → Heads first l.self.last sets l.self.mark l.initial.queue l.queued 0
          → Heads first l.self.last sets l.self.mark l.queue l.left 0;
      beyond : drop l.queued l.queue ≡ drop l.queued l.initial.queue;
    }

abbrev pub decreases-loop-head : goal.decreases-loop-head
decreases-loop-head g l = behind l.self.mark (take l.left l.queue)
