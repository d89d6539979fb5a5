use Rattle.std.proofs.Common.{ℕ, ◌+◌, ◌-◌, ◌^◌, ◌<◌, ◌≤◌, Option, Some, None, ap, arith}
use Rattle.std.specs.Option.{SomeIff}
use Rattle.calendar.specs.declared.sheet.Sheet.{Sheet}
use Rattle.calendar.proofs.Years.{from_year}
use Rattle.calendar.proofs.Dating.{Step, dated_some, earlier_step, later_step}
use Rattle.calendar.proofs.search.date_from.Given.{Over}
use Rattle.calendar.proofs.search.date_from.Goals as goal
use Rattle.calendar.proofs.search.date_from.Goals.{In-Earlier, In-Later}
use Rattle.calendar.proofs.search.date_from.Goals.at

pub returns-in-Here : goal.returns-in-Here
returns-in-Here g c =
    let s = simp c.sheet-sheet.ensures at c.in-Here.ensures in
    dated_some _ c.args.day (g.met.C.Sheets.lawful c.args.calendar.now) _ _ _ (from_year _ c.args.day _ _ _ s.0 s.1)

-- the step back, and the step on
back : (g : Over) (c : In-Earlier g) (r : Option ℕ) → SomeIff r (c.in-Earlier.years ≤ c.loop-sheet.year) (c.loop-sheet.year - c.in-Earlier.years) →
    Step (g.C.Sheets.meaning c.args.calendar.now) c.args.day c.loop-sheet.year r
back g c r h =
    let months = ap (λ (s : Sheet). s.months) c.sheet-sheet.ensures in
    earlier_step _ (g.met.C.Sheets.lawful c.args.calendar.now) c.args.day c.loop-sheet.year c.in-Earlier.years (omega arith) (omega arith)
    (simp c.sheet-sheet.ensures at c.in-Earlier.ensures) r h

on : (g : Over) (c : In-Later g) (r : Option ℕ) → SomeIff r (c.loop-sheet.year + c.in-Later.years < 2 ^ 32) (c.loop-sheet.year + c.in-Later.years) →
    Step (g.C.Sheets.meaning c.args.calendar.now) c.args.day c.loop-sheet.year r
on g c r h =
    let months = ap (λ (s : Sheet). s.months) c.sheet-sheet.ensures in
    later_step _ (g.met.C.Sheets.lawful c.args.calendar.now) c.args.day c.loop-sheet.year c.in-Later.years (omega arith)
    (simp c.sheet-sheet.ensures at c.in-Later.ensures) r h

pub returns-in_err-year-in-Earlier : goal.returns-in_err-year-in-Earlier
returns-in_err-year-in-Earlier g c =
    rw c.from_residual.ensures (back g (at.returns-in_err-year-in-Earlier g c).In-Earlier None c.in_err-year-in-Earlier.ensures)

pub returns-in_err-year-in-Later : goal.returns-in_err-year-in-Later
returns-in_err-year-in-Later g c =
    rw c.from_residual-in_err-year-in-Later.ensures (on g (at.returns-in_err-year-in-Later g c).In-Later None c.in_err-year-in-Later.ensures)

pub loop-sheet-preserved-in_ok-year-in-Earlier : goal.loop-sheet-preserved-in_ok-year-in-Earlier
loop-sheet-preserved-in_ok-year-in-Earlier g c =
    (back g (at.loop-sheet-preserved-in_ok-year-in-Earlier g c).In-Earlier (Some c.in_ok-year-in-Earlier.year) c.in_ok-year-in-Earlier.ensures).0

pub loop-sheet-smaller-in_ok-year-in-Earlier : goal.loop-sheet-smaller-in_ok-year-in-Earlier
loop-sheet-smaller-in_ok-year-in-Earlier g c =
    (back g (at.loop-sheet-smaller-in_ok-year-in-Earlier g c).In-Earlier (Some c.in_ok-year-in-Earlier.year) c.in_ok-year-in-Earlier.ensures).1

pub loop-sheet-preserved : goal.loop-sheet-preserved
loop-sheet-preserved g c = (on g (at.loop-sheet-preserved g c).In-Later (Some c.in_ok-year-in-Later.year) c.in_ok-year-in-Later.ensures).0

pub loop-sheet-smaller : goal.loop-sheet-smaller
loop-sheet-smaller g c = (on g (at.loop-sheet-smaller g c).In-Later (Some c.in_ok-year-in-Later.year) c.in_ok-year-in-Later.ensures).1
