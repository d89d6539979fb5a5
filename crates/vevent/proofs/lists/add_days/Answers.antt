-- The check does not find these: a full list, and one more day, by lemmas of Filling.
use Rattle.std.proofs.Common.{◌++◌, sym, ap, ◌∙◌, arith}
use Rattle.std.proofs.lemmas.Grind.{common_steps}
use Rattle.text.specs.Pieces.{ahead}
use Rattle.vevent.specs.Lists.{days_among, one_or_none}
use Rattle.vevent.proofs.Filling.{full, grown}
use Rattle.vevent.proofs.lists.add_days.Goals as goal

pub returns-then-is_err : goal.returns-then-is_err
returns-then-is_err g c =
    full g.row.N c.loop-date.days c.push.new.self (days_among (ahead g.B.Bytes.left c.loop-date.date-iterator)) (grind (arith, common_steps)) (grind (arith, common_steps)) ∙ c.loop-date.invariant

pub loop-date-preserved-else-is_err : goal.loop-date-preserved-else-is_err
loop-date-preserved-else-is_err g c =
    grown g.row.N c.loop-date.days c.push.new.self c.in-Some-ranged_day.day (days_among (ahead g.B.Bytes.left c.loop-date.date-iterator)) (days_among (ahead g.B.Bytes.left c.next.new.self)) (grind (arith, common_steps)) (grind (arith, common_steps))
    (ap days_among c.in-Some.ensures.steps ∙ ap (λ o. one_or_none o ++ days_among (ahead g.B.Bytes.left c.next.new.self)) (sym c.in-Some-ranged_day.ensures))
    ∙ c.loop-date.invariant
