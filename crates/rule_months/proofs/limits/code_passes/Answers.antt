use Rattle.std.proofs.Common.{rules, tests}
use Rattle.std.proofs.lemmas.Iterator.{YieldsList-from_slice}
use Rattle.std.proofs.lemmas.Iterator.Search.{any_from_yields_List}
use Rattle.calendar.specs.Dates.{is_same}
use Rattle.rule_months.proofs.Tests.{limited}
use Rattle.rule_months.proofs.limits.code_passes.Goals as goal

pub returns-else-is_empty : goal.returns-else-is_empty
returns-else-is_empty c =
    limited (λ d. is_same d c.args.code) _ c.is_empty.ensures c.if-is_empty.false
    (any_from_yields_List (λ d. is_same d c.args.code) _ _ _ c.any.ensures.ran (YieldsList-from_slice c.args.rule.now.parts.months (cc)) (λ x b q k. search (rules, tests)))
