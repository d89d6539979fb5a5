-- The check does not find this: it is the crate's own lemma, by which every date is computed.
use Rattle.worked.proofs.Cases.{worked}
use Rattle.worked.proofs.worked_dates_hold.Goals as goal

pub returns : goal.returns
returns c = worked
