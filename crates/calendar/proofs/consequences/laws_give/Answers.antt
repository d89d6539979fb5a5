-- The check does not find these: they are the crate's own lemmas about every lawful calendar.
use Rattle.calendar.proofs.Following.{given}
use Rattle.calendar.proofs.consequences.laws_give.Goals as goal

pub returns : goal.returns
returns c = given
