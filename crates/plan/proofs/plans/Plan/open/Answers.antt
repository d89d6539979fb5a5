-- The check does not find it: that the tables are a fresh plan's own, by a lemma of Leading.
use Rattle.std.proofs.Common.{rules}
use Rattle.plan.proofs.Leading.{opened_on}
use Rattle.plan.proofs.plans.Plan.open.Goals as goal

pub returns-clause-stands : goal.returns-clause-stands
returns-clause-stands c = λ shelf tables. opened_on shelf c.args.first c.args.last tables (search rules) (search rules)
