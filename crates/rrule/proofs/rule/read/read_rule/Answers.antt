-- The check does not find this: what the questions let through fits together.
use Rattle.std.proofs.Common.{ap, ◌∙◌}
use Rattle.rrule.specs.Named.{parts}
use Rattle.rrule.specs.Rule.{values_of}
use Rattle.rrule.proofs.Checked.{well_formed_by}
use Rattle.rrule.proofs.rule.read.read_rule.Goals as goal

pub rule_text-requires : goal.rule_text-requires
rule_text-requires g c =
    well_formed_by c.in_ok-frequency.frequency c.in_ok-values.values (parts (g.B.Bytes.left c.args.value)) (c.in_ok-values.ensures.ok.1 ∙ ap values_of c.in_ok-of.ensures.ok.1) c.in_ok-frequency.ensures.ok_part c.if-not-month_days_allowed.ensures c.if-not-numbers_allowed.ensures
