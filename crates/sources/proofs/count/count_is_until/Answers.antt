-- The check does not find this: it is the crate's own lemma about every set of days.
use Rattle.sources.proofs.Counts.{first_until}
use Rattle.sources.proofs.count.count_is_until.Goals as goal

pub returns : goal.returns
returns c set n d last = first_until set n d last
