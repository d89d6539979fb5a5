use Rattle.std.proofs.Common.{◌≡◌, ℕ, Bool, true, false, not, sym, refl, ap, ◌∙◌, arith}
use Rattle.std.proofs.lemmas.Bool.{cond-true}
use Rattle.rules.specs.declared.period.Stretch.{Stretch}
use Rattle.rule_months.specs.Filling.{in_month}
use Rattle.rule_months.proofs.Added.{adds_same}
use Rattle.rule_months.proofs.filling.StartedRule.add_in_month.Goals as goal

not-false : (b : Bool) → not b ≡ false → b ≡ true
not-false true e = refl
not-false false e = sym e

pub returns-then-has_month_days : goal.returns-then-has_month_days
returns-then-has_month_days c =
    let here = λ (n : ℕ). ap (λ (m : Stretch). in_month c.args.self.now.rule.now c.args.self.now.day m n) c.stretch-days.ensures in
    adds_same _ _ 62 62 _ _ (omega arith)
    (λ n. sym (cond-true _ _ _ (sym c.has_month_days.ensures ∙ c.if-has_month_days.true)) ∙ here n)
    c.add_month_days.ensures
