-- The check does not find this: the error of `transpose` comes from within an Option.
use Rattle.std.proofs.Common.{rules}
use Rattle.refusals.specs.declared.asked.RuleQuestion.TheVariants.{ValueForms}
use Rattle.rrule.proofs.Said.{refused}
use Rattle.rrule.proofs.named.RuleParts.said.Goals as goal

pub returns-clause-err : goal.returns-clause-err
returns-clause-err g c = rw c.transpose.ensures (refused _ g.T.Form.reading ValueForms _ (λ x r k. search rules) c.value_of.result _ c.map.result c.value_of.ensures c.map.ensures.cases)
