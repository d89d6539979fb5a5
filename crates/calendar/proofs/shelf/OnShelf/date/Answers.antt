-- The check does not find that the rest's answer is the shelf's: what stands there is one almanac by two names.
use Rattle.std.proofs.Common.{sym, subst}
use Rattle.calendar.specs.Sheets.{Almanac, Dated}
use Rattle.calendar.specs.Places.{at_rest}
use Rattle.calendar.proofs.shelf.OnShelf.date.Goals as goal

pub returns-then-place-lt-PLACES : goal.returns-then-place-lt-PLACES
returns-then-place-lt-PLACES g c =
    let rest = at_rest (g.C.Sheets.meaning c.args.self.now.calendar) (g.R.Shelf.held c.args.self.now.rest) c.args.place c.if-place-eq0.false c.if-place-lt-PLACES.true in
    subst (λ (a : Almanac). Dated a c.args.day c.date-then-place-lt-PLACES.result) (sym rest) c.date-then-place-lt-PLACES.ensures
