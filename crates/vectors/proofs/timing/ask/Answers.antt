-- The check does not find it: the series that were read can be asked.
use Rattle.std.proofs.Common.{vec_items}
use Rattle.icalendar.specs.Verdicts.{verdicts}
use Rattle.listing.proofs.Judged.{all_ready}
use Rattle.vectors.proofs.timing.ask.Goals as goal

pub asked_in_rounds-requires : goal.asked_in_rounds-requires
asked_in_rounds-requires g c =
    let shelf = g.S.Shelf.held c.args.shelf.now in
    rw c.as_slice.ensures.value (all_ready shelf (vec_items c.in_ok-verdicts.verdicts) (verdicts shelf 1 c.args.file.now) c.in_ok-verdicts.ensures.1)
