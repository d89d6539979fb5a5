-- The check does not find it.
use Rattle.std.proofs.Common.{rules}
use Rattle.plan_commands.proofs.Words.{not_one}
use Rattle.plan_commands.proofs.reading.seek_command.Goals as goal

pub returns-in_default : goal.returns-in_default
returns-in_default c = not_one c.args.words.now (λ e. search rules)
