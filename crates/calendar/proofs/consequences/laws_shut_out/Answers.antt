-- The check does not find these: they are the crate's own lemmas about every lawful calendar.
use Rattle.calendar.proofs.Following.{shut_out}
use Rattle.calendar.proofs.consequences.laws_shut_out.Goals as goal

pub returns : goal.returns
returns c = shut_out
