-- The check does not find these: the days by what is kept with the ending, by lemmas of Endings.
use Rattle.std.proofs.Common.{sym, subst}
use Rattle.calendar.specs.Shelves.{almanac_at}
use Rattle.sources.specs.Events.{Kept as KeptRight}
use Rattle.rules.specs.Meaning.{gives}
use Rattle.series.proofs.Endings.{asks_nothing, by_kept}
use Rattle.series.proofs.days_of.next_ruled.Goals as goal

pub next-requires : goal.next-requires
next-requires g c =
    let r = c.args.recurrence.now in
    let set = gives (almanac_at (g.S.Shelf.held c.args.shelf.now) r.place) r.rule c.args.start in
    (tt, subst (KeptRight set) (sym c.as_kept.ensures) (asks_nothing set r.ending))

pub returns : goal.returns
returns g c =
    let r = c.args.recurrence.now in
    let set = gives (almanac_at (g.S.Shelf.held c.args.shelf.now) r.place) r.rule c.args.start in
    λ kept. by_kept set r.ending _ _ c.args.from _ kept (rw c.as_kept.ensures at c.next.ensures)
