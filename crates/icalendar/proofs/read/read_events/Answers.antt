-- The check does not find it: the verdict on one more event, by lemmas of Reading.
use Rattle.std.proofs.Common.{[], ◌∷◌, ◌++◌, refl}
use Rattle.icalendar.specs.Verdicts.{verdict}
use Rattle.icalendar.proofs.Reading.{say_next, on_to_next}
use Rattle.icalendar.proofs.read.read_events.Goals as goal

pub loop-event-preserved : goal.loop-event-preserved
loop-event-preserved g c =
    let shelf = g.S.Shelf.held c.args.shelf.now in
    let so = c.loop-event.invariant in
    let judge = verdict shelf c.args.number in (
      so.0 ++ judge c.in-Some.event ∷ [],
      say_next shelf _ _ so.0 c.read_event.result (judge c.in-Some.event) c.in_ok-push.ensures.items so.1 c.read_event.ensures,
      on_to_next judge so.0 _ c.in-Some.event _ _ _ c.in-Some.ensures.steps refl so.2,
    )
