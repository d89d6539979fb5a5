-- What the loop keeps: the check does not find an invariant, nor a measure.
use Rattle.std.proofs.Common.{◌≡◌, ◌-◌, ◌++◌, vec_items}
use Rattle.series.specs.Record.{series_days, days_between}
use Rattle.series.proofs.days_of.days_between.Given as goal

-- the days found so far, and those that are left
abbrev pub invariant-loop-day : goal.invariant-loop-day
invariant-loop-day g l =
    let set = series_days (g.S.Shelf.held l.shelf) l.series in
    vec_items l.days ++ days_between set l.from l.last ≡ days_between set l.first l.last

abbrev pub decreases-loop-day : goal.decreases-loop-day
decreases-loop-day g l = 803169 - l.from
