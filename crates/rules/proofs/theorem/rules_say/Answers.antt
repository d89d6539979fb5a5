-- The check does not look for the theorem among the lemmas.
use Rattle.rules.proofs.Given.{rules_say}
use Rattle.rules.proofs.theorem.rules_say.Goals as goal

pub returns : goal.returns
returns c = rules_say
