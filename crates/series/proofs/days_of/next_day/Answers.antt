-- The check does not find these: the days by the parts of a series, by lemmas of Days.
use Rattle.std.proofs.Common.{ap, subst}
use Rattle.calendar.specs.Shelves.{almanac_at}
use Rattle.sources.specs.Events.{limit_in}
use Rattle.series.specs.Record.{ruled_in, LastRight}
use Rattle.series.proofs.Days.{found_of, by_parts}
use Rattle.series.proofs.days_of.next_day.Goals as goal

pub returns-in-Some : goal.returns-in-Some
returns-in-Some g c =
    let r = c.in-Some.recurrence in
    let s = c.args.series.now in
    let shelf = g.S.Shelf.held c.args.shelf.now in
    λ ready.
    let kept = subst (LastRight shelf s.start) c.in-Some.is ready.last in
    found_of shelf s c.args.from _ _ _ _ (ap ruled_in c.in-Some.is) c.items.ensures.value c.items-2.ensures.value
    (by_parts (almanac_at shelf r.place) r.rule s.start (limit_in r.ending) _ _ c.args.from _ (c.next_ruled.ensures kept))

pub returns-in-None : goal.returns-in-None
returns-in-None g c =
    λ ready. found_of (g.S.Shelf.held c.args.shelf.now) c.args.series.now c.args.from _ _ _ _ (ap ruled_in c.in-None.is) c.items.ensures.value c.items-2.ensures.value
    (rw c.day.ensures.day at c.next.ensures)
