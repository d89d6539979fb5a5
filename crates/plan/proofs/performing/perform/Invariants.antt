-- What the loop keeps: the check does not find an invariant.
use Rattle.std.proofs.Common.{◌≡◌, ◌≤◌, ℕ, drop}
use Rattle.runs.specs.Runs.{told}
use Rattle.runs.specs.Law.{Law}
use Rattle.plan.specs.Plans.{lent, places, fresh_plan, Stands, Untouched}
use Rattle.plan.proofs.performing.perform.Given as goal

-- the calls so far keep to the law at each point, and have led to the plan and its tables
abbrev pub invariant-loop-i : goal.invariant-loop-i
invariant-loop-i g l =
    let shelf = g.S.Shelf.held l.shelf in
    let calls = l.calls in
    record {
      law : (n : ℕ) → n ≤ l.i → Law shelf l.first l.last (places l.initial.tables) (told calls l.answers n);
      stands : Stands shelf l.first l.last (places l.initial.tables) (told calls l.answers l.i) (lent l.plan l.tables);
      untouched : Untouched (lent (fresh_plan l.first l.last) l.initial.tables) (lent l.plan l.tables);
      beyond : drop l.i l.answers ≡ drop l.i l.initial.answers;
    }
