use Rattle.std.proofs.Common.{◌+◌, Some, None, refl, rules}
use Rattle.calendar.specs.Dates.{DayNamed}
use Rattle.calendar.specs.Shelves.{almanac_at}
use Rattle.calendar.proofs.Naming.{sound, on_sheet, day_named_some, day_named_no_code, day_named_no_day}
use Rattle.calendar.proofs.dates.day_named.Given.{Over}
use Rattle.calendar.proofs.dates.day_named.Goals as goal
use Rattle.calendar.proofs.dates.day_named.Goals.{In_ok-days_into}

named : (g : Over) (c : In_ok-days_into g) → DayNamed (almanac_at (g.S.Shelf.held c.args.shelf.now) c.args.place) c.args.date (Some (c.sheet-sheet.result.first + c.in_ok-days_into.field-0))
named g c =
    let known = sound _ (g.met.S.Shelf.lawful c.args.shelf.now) c.args.place in
    simp c.sheet-sheet.ensures
    (day_named_some _ known c.args.date _ _ (on_sheet _ known c.args.date _ (Some c.in_ok-month.month) c.sheet-sheet.ensures c.in_ok-month.ensures) (simp c.sheet-sheet.ensures at c.in_ok-days_into.ensures))

pub overflow_add-result : goal.overflow_add-result
overflow_add-result g c =
    let n = (named g c).right _ refl in
    let m = (sound _ (g.met.S.Shelf.lawful c.args.shelf.now) c.args.place).ends _ _ _ _ n.stands in
    search rules

pub returns : goal.returns
returns g c = named g c

pub returns-in_err-days_into : goal.returns-in_err-days_into
returns-in_err-days_into g c =
    let known = sound _ (g.met.S.Shelf.lawful c.args.shelf.now) c.args.place in
    rw c.from_residual-in_err-days_into.ensures
    (day_named_no_day _ known c.args.date _ (on_sheet _ known c.args.date _ (Some c.in_ok-month.month) c.sheet-sheet.ensures c.in_ok-month.ensures) (simp c.sheet-sheet.ensures at c.in_err-days_into.ensures))

pub returns-in_err-month : goal.returns-in_err-month
returns-in_err-month g c =
    let known = sound _ (g.met.S.Shelf.lawful c.args.shelf.now) c.args.place in
    rw c.from_residual.ensures (day_named_no_code _ c.args.date (on_sheet _ known c.args.date _ None c.sheet-sheet.ensures c.in_err-month.ensures))
