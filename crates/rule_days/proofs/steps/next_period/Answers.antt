-- Without these the check leaves the goals open: they are lemmas of lawful calendars.
use Rattle.std.proofs.Common.{arith}
use Rattle.rule_days.proofs.Stepping.{stopped, months_stepped, months_stopped}
use Rattle.rule_days.proofs.steps.next_period.Goals as goal

pub returns-in_err-checked_add-in-Year : goal.returns-in_err-checked_add-in-Year
returns-in_err-checked_add-in-Year g c =
    let l = g.met.C.Sheets.lawful c.args.calendar.now in
    stopped _ l _ _ c.in-Year.is c.args.interval _ c.from_residual.ensures
    (λ h _. let few = l.numbered _ h in c.in_err-checked_add-in-Year.ensures (omega arith))

pub returns-in_err-year-in-Month : goal.returns-in_err-year-in-Month
returns-in_err-year-in-Month g c =
    months_stopped _ (g.met.C.Sheets.lawful c.args.calendar.now) _ _ _ c.in-Month.is c.args.interval _ c.from_residual-in_err-year-in-Month.ensures
    c.in_err-year-in-Month.ensures

pub returns-in_ok-year-in-Month : goal.returns-in_ok-year-in-Month
returns-in_ok-year-in-Month g c =
    months_stepped _ (g.met.C.Sheets.lawful c.args.calendar.now) _ _ _ c.in-Month.is c.args.interval _ c.in_ok-year-in-Month.ensures

pub returns-in_err-checked_add-in-Week : goal.returns-in_err-checked_add-in-Week
returns-in_err-checked_add-in-Week g c =
    stopped _ (g.met.C.Sheets.lawful c.args.calendar.now) _ _ c.in-Week.is c.args.interval _ c.from_residual-in_err-checked_add-in-Week.ensures
    (λ _ h. c.in_err-checked_add-in-Week.ensures (omega arith))

pub returns-in_err-checked_add-in-Day : goal.returns-in_err-checked_add-in-Day
returns-in_err-checked_add-in-Day g c =
    stopped _ (g.met.C.Sheets.lawful c.args.calendar.now) _ _ c.in-Day.is c.args.interval _ c.from_residual-in_err-checked_add-in-Day.ensures
    (λ _ h. c.in_err-checked_add-in-Day.ensures (omega arith))
