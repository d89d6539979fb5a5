-- What the loop keeps: the check does not find an invariant, nor a measure.
use Rattle.std.proofs.Common.{ℕ, ◌-◌, ◌<◌, ◌≤◌}
use Rattle.sources.specs.Sets.{DayOf, except, listed}
use Rattle.sources.proofs.layers.ExceptSource.next.Given as goal

-- from the day first asked about to the one asked about now, no day is left
abbrev pub invariant-loop-day : goal.invariant-loop-day
invariant-loop-day g l =
    let set = except (g.S.Source.days l.self.inner) (listed l.self.days.now) in
    (l.from ≤ l.at) × ((e : ℕ) → DayOf set e → l.from ≤ e → e < l.at → ⊥)

abbrev pub decreases-loop-day : goal.decreases-loop-day
decreases-loop-day g l = 803169 - l.at
