-- What the loop keeps: the check does not find an invariant, nor a measure.
use Rattle.std.proofs.Common.{◌≡◌, List, ◌++◌, map, length, Result}
use Rattle.series.specs.Record.{Accepted}
use Rattle.icalendar.specs.declared.fault.Fault.{Fault}
use Rattle.icalendar.specs.Verdicts.{verdict, verdicts}
use Rattle.intake.proofs.Progress.{Progress}
use Rattle.intake.proofs.storing.store_events.Given as goal

-- what is stored of the events so far, and the verdicts on the events to come
abbrev pub invariant-loop-event : goal.invariant-loop-event
invariant-loop-event g l =
    let shelf = g.S.Shelf.held l.shelf in
    (done : List (Result Accepted Fault)) × Progress shelf l.number l.initial.series l.initial.faults done l.made l.series l.faults
    × (done ++ map (verdict shelf l.number) l.event-iterator ≡ verdicts shelf l.number l.file)

abbrev pub decreases-loop-event : goal.decreases-loop-event
decreases-loop-event g l = length l.event-iterator
