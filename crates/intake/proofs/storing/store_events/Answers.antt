-- The check does not find these: that there is room for one more, and what is stored then, by lemmas of Progress.
use Rattle.std.proofs.Common.{◌≡◌, [], ◌∷◌, ◌++◌, length, map, sym, refl, ap, ◌∙◌, append-nil, subst, arith}
use Rattle.std.proofs.lemmas.List.{length-map}
use Rattle.icalendar.specs.Files.{events_of}
use Rattle.icalendar.specs.Verdicts.{verdict, verdicts}
use Rattle.icalendar.proofs.Reading.{on_to_next}
use Rattle.intake.proofs.Growing.{one_each}
use Rattle.intake.proofs.Progress.{Progress, room_left, progress_next, one_to_come}
use Rattle.intake.proofs.storing.store_events.Goals as goal

pub loop-event-init : goal.loop-event-init
loop-event-init g c =
    let judge = verdict (g.S.Shelf.held c.args.shelf.now) c.args.number in
    ([], record { series_made = refl; faults_made = refl; series = ([], tt, refl); faults = refl }, ap (map judge) (c.into_iter-event-iterator.ensures.into_iter_gives ∙ c.of-event-items.ensures))

pub store-made-requires : goal.store-made-requires
store-made-requires g c =
    let l = c.loop-event in
    let done = l.invariant.0 in
    let shelf = g.S.Shelf.held c.args.shelf.now in
    let es = events_of c.args.file.now in
    let more = one_to_come (verdict shelf c.args.number) done es _ _ c.in-Some.event c.in-Some.ensures.steps l.invariant.2 in
    let room = room_left shelf c.args.number c.args.series.now c.args.faults.now done l.made l.made l.series l.series l.faults l.faults l.invariant.1 (length es) (length l.series) (length l.faults) more (omega (arith, c.requires.series, l.auto.series)) (omega (arith, c.requires.faults, l.auto.faults)) c.requires.few in
    record { series = room.0; faults = room.1.0; few = room.1.1 }

pub loop-event-preserved : goal.loop-event-preserved
loop-event-preserved g c =
    let l = c.loop-event in
    let done = l.invariant.0 in
    let shelf = g.S.Shelf.held c.args.shelf.now in
    let es = events_of c.args.file.now in
    let judge = verdict shelf c.args.number in
    let st = c.store-made.ensures in
    let more = one_to_come judge done es _ _ c.in-Some.event c.in-Some.ensures.steps l.invariant.2 in
    let room = room_left shelf c.args.number c.args.series.now c.args.faults.now done l.made l.made l.series l.series l.faults l.faults l.invariant.1 (length es) (length c.args.series.now) (length c.args.faults.now) more c.requires.series c.requires.faults c.requires.few in (
      done ++ judge c.in-Some.event ∷ [],
      progress_next shelf c.args.number c.args.series.now c.args.faults.now done l.made c.store-made.result l.series c.store-made.new.series l.faults c.store-made.new.faults l.invariant.1
          room.0 room.1.0
          c.read_event.result (judge c.in-Some.event) c.read_event.ensures (record { ok = st.ok; err = st.err; made = st.made }),
      on_to_next judge done _ c.in-Some.event _ _ _ c.in-Some.ensures.steps refl l.invariant.2,
    )

pub returns : goal.returns
returns g c =
    let l = c.loop-event in
    let shelf = g.S.Shelf.held c.args.shelf.now in
    let done = l.invariant.0 in
    let judge = verdict shelf c.args.number in
    let all : done ≡ verdicts shelf c.args.number c.args.file.now = sym (append-nil done) ∙ ap (λ es. done ++ map judge es) (sym c.in-None.ensures.steps.0) ∙ l.invariant.2 in
    let p = subst (λ vs. Progress shelf c.args.number c.args.series.now c.args.faults.now vs l.made l.series l.faults) all l.invariant.1 in
    record {
      series_made = p.series_made;
      faults_made = p.faults_made;
      one_each = omega (arith, p.series_made, p.faults_made, one_each c.args.number 1 (verdicts shelf c.args.number c.args.file.now), length-map (events_of c.args.file.now) judge);
      series = p.series;
      faults = p.faults;
    }
