-- The check does not find these: the questions one after another, by lemmas of Asking.
use Rattle.std.proofs.Common.{rules}
use Rattle.plan.proofs.Asking.{file_refused, file_passed}
use Rattle.plan.proofs.plans.Plan.check_load.Goals as goal

pub returns-in_err-events-clause-refused : goal.returns-in_err-events-clause-refused
returns-in_err-events-clause-refused c = let file = file_refused c.args.file.now c.in_err-events.field-0.0 c.in_err-events.ensures in search rules

pub returns-in_err-check_room-clause-refused : goal.returns-in_err-check_room-clause-refused
returns-in_err-check_room-clause-refused c = let file = file_passed c.args.file.now c.in_ok-events.events c.in_ok-events.ensures in search rules

pub returns-clause-passed : goal.returns-clause-passed
returns-clause-passed c = let file = file_passed c.args.file.now c.in_ok-events.events c.in_ok-events.ensures in search rules
