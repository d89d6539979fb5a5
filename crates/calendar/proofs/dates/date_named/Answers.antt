use Rattle.std.proofs.Common.{◌≤◌, List, length, refl, ap, arith, rules}
use Rattle.calendar.specs.declared.sheet.MonthCode.{MonthCode}
use Rattle.calendar.specs.declared.sheet.Sheet.{Sheet}
use Rattle.calendar.specs.Shelves.{almanac_at}
use Rattle.calendar.specs.Places.{lawful_at}
use Rattle.calendar.proofs.Codes.{all_codes}
use Rattle.calendar.proofs.Following.{shut_out}
use Rattle.calendar.proofs.Naming.{sound, month_of, date_named_some}
use Rattle.calendar.proofs.dates.date_named.Given.{Over}
use Rattle.calendar.proofs.dates.date_named.Goals as goal
use Rattle.calendar.proofs.dates.date_named.Goals.{After-sheet}
use Rattle.calendar.proofs.dates.date_named.Goals.at

-- the month is one of the year's
month : (g : Over) (c : After-sheet g) → (1 ≤ c.in_ok-year.month) × (c.in_ok-year.month ≤ ((almanac_at (g.S.Shelf.held c.args.shelf.now) c.args.place).sheet c.in_ok-year.year).months)
month g c =
    month_of (almanac_at (g.S.Shelf.held c.args.shelf.now) c.args.place) c.args.day c.in_ok-year.year c.in_ok-year.month c.in_ok-year.day
    (c.in_ok-year.ensures.stands _ _ _ refl)

pub overflow_sub-code : goal.overflow_sub-code
overflow_sub-code g c = let m = month g (at.overflow_sub-code g c).After-sheet in omega arith

pub bounds-month_codes-from : goal.bounds-month_codes-from
bounds-month_codes-from g c =
    let m = month g (at.bounds-month_codes-from g c).After-sheet in
    let s = (sound _ (g.met.S.Shelf.lawful c.args.shelf.now) c.args.place).months c.in_ok-year.year in
    let months = ap (λ (s : Sheet). s.months) c.sheet.ensures in
    let codes = ap (λ (l : List MonthCode). length l) c.month_codes.ensures.value in
    let n = all_codes c.sheet.result (search rules) (omega arith) in
    omega arith

pub returns-clause-named : goal.returns-clause-named
returns-clause-named g c =
    simp (c.month_codes.ensures.value, c.sheet.ensures, c.from.ensures) (date_named_some _ c.args.day _ _ _ c.in_ok-year.ensures)

pub returns-in_err-year-clause-covered : goal.returns-in_err-year-clause-covered
returns-in_err-year-clause-covered g c on day =
    let l = g.S.Shelf.held c.args.shelf.now in
    absurd (shut_out.no_date (almanac_at l c.args.place) (lawful_at l (g.met.S.Shelf.lawful c.args.shelf.now) c.args.place on) c.args.day day c.in_err-year.ensures)
