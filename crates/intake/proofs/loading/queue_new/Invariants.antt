-- What the loop keeps: the check does not find an invariant.
use Rattle.std.proofs.Common.{◌≡◌, ◌≤◌, ℕ, take, drop}
use Rattle.std.specs.List.{All}
use Rattle.series.specs.Record.{Ready}
use Rattle.heads.specs.Heads.{sets_of, Heads}
use Rattle.intake.proofs.loading.queue_new.Given as goal

-- the heads stand for the lines of the first k series
abbrev pub invariant-loop-k : goal.invariant-loop-k
invariant-loop-k g l =
    let shelf = g.S.Shelf.held l.coming.shelf.now in
    let series = l.coming.series.now in
    record {
      few : l.left ≤ l.k;
      heads : (first : ℕ) → All (Ready shelf) series → Heads first l.coming.last (sets_of shelf (take l.from series)) l.coming.mark l.initial.queue l.queued 0
          → Heads first l.coming.last (sets_of shelf (take l.k series)) l.coming.mark l.queue l.left 0;
      beyond : drop l.to l.queue ≡ drop l.to l.initial.queue;
    }
