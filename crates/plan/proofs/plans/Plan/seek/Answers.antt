-- The check does not find these: the plan's own tables, by a lemma of Owning, and how a run goes on, by lemmas of Leading.
use Rattle.std.proofs.Common.{refl, rules}
use Rattle.refusals.specs.declared.asked.PlanQuestion.TheVariants.{FullTables, DayInWindow, DayNotPassed}
use Rattle.plan.specs.Plans.{lent}
use Rattle.plan.proofs.Owning.{own_sought}
use Rattle.plan.proofs.Leading.{seek_refused, sought_leads}
use Rattle.plan.proofs.plans.Plan.seek.Goals as goal

pub returns-then-not-fits-clause-leads : goal.returns-then-not-fits-clause-leads
returns-then-not-fits-clause-leads c = λ shelf. seek_refused shelf c.args.day FullTables (lent c.args.self.now c.args.tables.now) (search rules)

pub returns-then-day-self-clause-leads : goal.returns-then-day-self-clause-leads
returns-then-day-self-clause-leads c = λ shelf. seek_refused shelf c.args.day DayInWindow (lent c.args.self.now c.args.tables.now) (search rules)

pub returns-then-day-self-2-clause-leads : goal.returns-then-day-self-2-clause-leads
returns-then-day-self-2-clause-leads c = λ shelf. seek_refused shelf c.args.day DayNotPassed (lent c.args.self.now c.args.tables.now) (search rules)

pub returns-clause-own : goal.returns-clause-own
returns-clause-own c = λ shelf. own_sought shelf (lent c.args.self.now c.args.tables.now) _ c.args.day (search rules) (search rules) refl refl

pub returns-clause-leads : goal.returns-clause-leads
returns-clause-leads c = λ shelf. sought_leads shelf c.args.day _ c.args.self.now _ c.args.tables.now (search rules) (search rules) (search rules) (returns-clause-own c shelf)
