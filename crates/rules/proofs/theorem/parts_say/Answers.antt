-- The check does not look for the theorem among the lemmas.
use Rattle.rules.proofs.PartsSay.{parts_say}
use Rattle.rules.proofs.theorem.parts_say.Goals as goal

pub returns : goal.returns
returns c = parts_say
