-- The check does not find these: a full list, and one more byte, by lemmas of Filling.
use Rattle.std.proofs.Common.{◌∙◌, arith}
use Rattle.std.proofs.lemmas.Grind.{common_steps}
use Rattle.vevent.proofs.Filling.{full, grown}
use Rattle.vevent.proofs.kept.first_bytes.Goals as goal

pub returns-then-is_err : goal.returns-then-is_err
returns-then-is_err g c =
    full g.row.N c.loop-b.bytes c.push.new.self c.loop-b.b-iterator (grind (arith, common_steps)) (grind (arith, common_steps)) ∙ c.loop-b.invariant

pub loop-b-preserved : goal.loop-b-preserved
loop-b-preserved g c =
    grown g.row.N c.loop-b.bytes c.push.new.self c.in-Some.b c.loop-b.b-iterator c.next.new.self (grind (arith, common_steps)) (grind (arith, common_steps)) c.in-Some.ensures.steps ∙ c.loop-b.invariant
