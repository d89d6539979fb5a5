-- The plan's own tables after a call.
use Rattle.std.proofs.Common.{◌≡◌, ℕ, List, Some, None, Option, sym, refl, subst}
use Rattle.std.specs.Option.{unwrap_or}
use Rattle.calendar.specs.Sheets.{Almanac}
use Rattle.series.specs.declared.record.Series.{Series}
use Rattle.owed.specs.declared.line.Line.{Line}
use Rattle.heads.specs.Heads.{Heads, mark_after}
use Rattle.runs.specs.Plans.{Standing, sought, with_mark}
use Rattle.runs.proofs.Runs.{sought_on}
use Rattle.heads.proofs.Moved.{heads_sought}
use Rattle.plan.specs.Plans.{Lent, Own, sets_in_use}

-- the mark moved on, and the heads were brought up to date
pub own_moved : (shelf : List Almanac) (s t : Lent) (mark : Line) → t.plan.standing ≡ with_mark s.plan.standing mark → t.series ≡ s.series
    → Heads s.plan.standing.first s.plan.standing.last (sets_in_use shelf s) mark t.queue t.plan.queued 0 → Own shelf s → Own shelf t
own_moved shelf s t mark e same heads own =
    subst (λ (p : Standing). Own shelf (record { plan = record { standing = p; queued = t.plan.queued }; series = t.series; faults = t.faults; queue = t.queue })) (sym e)
    (subst (λ (ss : List Series). Own shelf (record { plan = record { standing = with_mark s.plan.standing mark; queued = t.plan.queued }; series = ss; faults = t.faults; queue = t.queue })) (sym same)
    (record { ready = own.ready; heads = heads }))

pub unwrapped : (answer : Option Line) (mark : Line) → unwrap_or answer mark ≡ mark_after mark answer
unwrapped (Some l) mark = refl
unwrapped None mark = refl

-- the mark moved on, and the heads stay
pub own_sought : (shelf : List Almanac) (s t : Lent) (day : ℕ) → t.plan.standing ≡ with_mark s.plan.standing (sought s.plan.standing.mark day) → t.plan.queued ≡ s.plan.queued → t.series ≡ s.series → t.queue ≡ s.queue → Own shelf s → Own shelf t
own_sought shelf s t day e heads series queue own =
    let next = sought s.plan.standing.mark day in
    let p = s.plan.standing in
    own_moved shelf s t next e series
    (subst (λ n. Heads p.first p.last (sets_in_use shelf s) next t.queue n 0) (sym heads)
    (subst (λ q. Heads p.first p.last (sets_in_use shelf s) next q s.plan.queued 0) (sym queue)
    (heads_sought p.first p.last (sets_in_use shelf s) p.mark next s.queue s.plan.queued 0 own.heads (sought_on p.mark day).0)))
    own
