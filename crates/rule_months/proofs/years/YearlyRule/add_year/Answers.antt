use Rattle.std.proofs.Common.{ℕ, ◌&&◌, sym, ap, ◌∙◌, arith}
use Rattle.rules.specs.Meaning.{some_month, month_at}
use Rattle.rule_months.specs.Filling.{in_month, taken}
use Rattle.rule_months.proofs.Added.{adds_same}
use Rattle.rule_months.proofs.Whole.{year_by_months}
use Rattle.rule_months.proofs.years.YearlyRule.add_year.Goals as goal

pub returns-else-weekdays_alone : goal.returns-else-weekdays_alone
returns-else-weekdays_alone c t e =
    let r = c.args.self.now.started.rule.now in
    let s = c.args.year.now.sheet.now in
    adds_same _ _ 806 806 _ _ (omega arith)
    (λ n.
    ap (λ (d : ℕ). some_month s (λ p. taken r c.args.self.now.own s p && in_month r d (month_at s p) n)) (sym e)
    ∙ sym (year_by_months r t c.args.self.now.own s n (sym c.weekdays_alone.ensures ∙ c.if-weekdays_alone.false)))
    c.add_months.ensures
