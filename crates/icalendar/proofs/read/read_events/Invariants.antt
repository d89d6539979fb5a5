-- What the loop keeps: the check does not find an invariant, nor a measure.
use Rattle.std.proofs.Common.{◌≡◌, List, ◌++◌, map, length, vec_items, Result}
use Rattle.series.specs.Record.{Accepted}
use Rattle.icalendar.specs.declared.fault.Fault.{Fault}
use Rattle.icalendar.specs.Verdicts.{verdict, verdicts}
use Rattle.icalendar.specs.Read.{AllSay}
use Rattle.icalendar.proofs.read.read_events.Given as goal

-- what is found so far, and the verdicts on the events to come
abbrev pub invariant-loop-event : goal.invariant-loop-event
invariant-loop-event g l =
    (done : List (Result Accepted Fault)) × AllSay (g.S.Shelf.held l.shelf) (vec_items l.found) done
    × (done ++ map (verdict (g.S.Shelf.held l.shelf) l.number) l.event-iterator ≡ verdicts (g.S.Shelf.held l.shelf) l.number l.file)

abbrev pub decreases-loop-event : goal.decreases-loop-event
decreases-loop-event g l = length l.event-iterator
