use Rattle.owed.proofs.Owing.{owed_lists}
use Rattle.owed.proofs.theorem.owed_lists.Goals as goal

pub returns : goal.returns
returns c = owed_lists
