-- The check does not find that the year has the day, and that no other year has it.
use Rattle.std.proofs.Common.{sym, arith}
use Rattle.days.proofs.Years.{next_year, date_of_none, date_of_some}
use Rattle.days.proofs.gregorian.date_of_day.Goals as goal

pub returns-in_err-year : goal.returns-in_err-year
returns-in_err-year c =
    rw c.from_residual.ensures (date_of_none _ (λ y h. let none = c.in_err-year.ensures.only y h in cc))

pub returns-in_err-month : goal.returns-in_err-month
returns-in_err-month c =
    let year = c.in_ok-year.ensures.some in
    let next = next_year _ year.year_from in
    let o = year.not_over in
    let b = year.begun in
    let over = rw (c.month_lengths.ensures, c.new_year.ensures) at c.in_err-month.ensures in
    absurd (omega arith)

pub returns : goal.returns
returns c =
    date_of_some _ _ _ _ (record { year = c.in_ok-year.ensures.some; falls = simp (sym c.month_lengths.ensures, sym c.new_year.ensures) c.in_ok-month.ensures })
