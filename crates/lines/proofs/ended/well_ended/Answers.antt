-- The check finds none of these: how the lines end from a place on, before and past a byte or a line's end.
use Rattle.std.proofs.Common.{◌∙◌, rules, arith}
use Rattle.std.proofs.lemmas.Bool.Decides.{nat_tests}
use Rattle.lines.proofs.Folds.{from_start, ended_here, plain_here}
use Rattle.lines.proofs.ended.well_ended.Goals as goal

pub loop-rest-init : goal.loop-rest-init
loop-rest-init c = from_start c.args.file.now

pub loop-rest-preserved-in-10-rest-3 : goal.loop-rest-preserved-in-10-rest-3
loop-rest-preserved-in-10-rest-3 c = ended_here c.loop-rest.ended c.loop-rest.rest.now (search (rules, arith, nat_tests)) ∙ c.loop-rest.invariant

pub loop-rest-preserved : goal.loop-rest-preserved
loop-rest-preserved c =
    plain_here c.loop-rest.ended c.loop-rest.rest.now (search (rules, arith, nat_tests)) (search (rules, arith, nat_tests)) ∙ c.loop-rest.invariant
