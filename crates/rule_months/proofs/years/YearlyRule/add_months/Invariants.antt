use Rattle.std.proofs.Common.{◌+◌, ◌-◌, ◌*◌, ◌&&◌}
use Rattle.rules.specs.Meaning.{some_below, month_at}
use Rattle.rule_months.specs.Filling.{Adds, in_month, taken}
use Rattle.rule_months.proofs.years.YearlyRule.add_months.Given as goal

abbrev pub invariant-loop-place : goal.invariant-loop-place
invariant-loop-place l =
    Adds l.initial.queue l.queue (62 * (l.place - 1))
    (λ n. some_below (λ i. taken l.self.started.rule.now l.self.own l.year.sheet.now (i + 1) && in_month l.self.started.rule.now l.self.started.day (month_at l.year.sheet.now (i + 1)) n) (l.place - 1))
