-- Searched for, it is slow to be refused where it does not hold.
use Rattle.std.proofs.Common.{ap, sym, ◌∙◌}
use Rattle.plan_commands.specs.Commands.{meant_if}
use Rattle.plan_commands.proofs.Words.{not_in_script}
use Rattle.plan_commands.proofs.reading.read_plan_command.Goals as goal

pub returns-in-None : goal.returns-in-None
returns-in-None c =
    c.other_command.ensures ∙ not_in_script c.args.words.now c.in_ok-keyword.keyword.now c.in_ok-keyword.arguments.now c.in_ok-keyword.ensures.cases.0 (sym (ap meant_if c.in-None.is) ∙ c.script_command.ensures)
