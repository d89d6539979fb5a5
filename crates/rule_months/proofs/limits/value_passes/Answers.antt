use Rattle.std.proofs.Common.{rules, tests}
use Rattle.std.proofs.lemmas.Iterator.{YieldsList-from_slice}
use Rattle.std.proofs.lemmas.Iterator.Search.{any_from_yields_List}
use Rattle.rules.specs.Meaning.{names}
use Rattle.rule_months.proofs.Tests.{limited}
use Rattle.rule_months.proofs.limits.value_passes.Goals as goal

pub returns-else-is_empty : goal.returns-else-is_empty
returns-else-is_empty c =
    limited (names c.args.day c.args.length) _ c.is_empty.ensures c.if-is_empty.false
    (any_from_yields_List (names c.args.day c.args.length) _ _ _ c.any.ensures.ran (YieldsList-from_slice c.args.rule.now.parts.month_days (cc)) (λ x b q k. search (rules, tests)))
