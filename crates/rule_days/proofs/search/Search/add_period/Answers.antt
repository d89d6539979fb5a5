use Rattle.std.proofs.Common.{◌&&◌, leb, sym, refl, ap, ◌∙◌, subst, arith}
use Rattle.calendar.specs.declared.sheet.MonthCode.{MonthCode}
use Rattle.calendar.specs.declared.sheet.Sheet.{Sheet}
use Rattle.calendar.specs.Sheets.{code_at}
use Rattle.rules.specs.declared.period.Period.{Period}
use Rattle.rules.specs.Meaning.{year_gives, month_at, code_passes, period_gives}
use Rattle.rule_months.specs.Filling.{Usable, in_month}
use Rattle.rule_days.specs.Onward.{Placed}
use Rattle.rule_days.specs.Onward.{the_date}
use Rattle.rule_days.proofs.Sized.{usable_sheet}
use Rattle.rule_months.proofs.Added.{adds_same}
use Rattle.rule_days.proofs.search.Search.add_period.Goals as goal

pub invariant_of-year : goal.invariant_of-year
invariant_of-year g c =
    let a = g.C.Sheets.meaning c.args.self.now.calendar.now in
    let l = g.met.C.Sheets.lawful c.args.self.now.calendar.now in
    let here = subst (Placed a) c.in-Year.is c.requires.placed in
    record { usable = usable_sheet a l c.in-Year.year here _ c.sheet.ensures }

pub invariant_of-year-in-Month : goal.invariant_of-year-in-Month
invariant_of-year-in-Month g c =
    let a = g.C.Sheets.meaning c.args.self.now.calendar.now in
    let l = g.met.C.Sheets.lawful c.args.self.now.calendar.now in
    let here = subst (Placed a) c.in-Month.is c.requires.placed in
    record { usable = usable_sheet a l c.in-Month.year here.0 _ c.sheet-in-Month.ensures }

pub returns-in-Year : goal.returns-in-Year
returns-in-Year g c =
    let a = g.C.Sheets.meaning c.args.self.now.calendar.now in
    let r = c.args.self.now.rule.now in
    let t = the_date c.args.self.now.date in
    adds_same _ _ 806 806 _ _ (omega arith)
    (λ n.
    ap (λ (x : MonthCode). year_gives r t x c.sheet.result n) c.own_code.ensures
    ∙ ap (λ (s : Sheet). year_gives r t (code_at (a.sheet t.year) t.place) s n) c.sheet.ensures
    ∙ sym (ap (λ (p : Period). period_gives a r c.args.self.now.start t p n) c.in-Year.is))
    (c.add_year.ensures t refl)

pub returns-in-Month : goal.returns-in-Month
returns-in-Month g c =
    let a = g.C.Sheets.meaning c.args.self.now.calendar.now in
    let r = c.args.self.now.rule.now in
    let t = the_date c.args.self.now.date in
    let p = c.in-Month.place in
    adds_same _ _ 62 806 _ _ (omega arith)
    (λ n.
    ap (λ (s : Sheet). (leb p s.months && code_passes r (code_at s p)) && in_month r t.day (month_at s p) n) c.sheet-in-Month.ensures
    ∙ sym (ap (λ (q : Period). period_gives a r c.args.self.now.start t q n) c.in-Month.is))
    c.add_month.ensures
