-- The check does not find these: the series that were read can be asked, and say the verdicts.
use Rattle.std.proofs.Common.{vec_items}
use Rattle.icalendar.specs.Verdicts.{verdicts}
use Rattle.listing.proofs.Judged.{all_ready, read_text}
use Rattle.listing.proofs.files.file_text.Goals as goal

pub body-requires : goal.body-requires
body-requires g c =
    let shelf = g.S.Shelf.held c.args.shelf.now in
    rw c.as_slice.ensures.value (all_ready shelf (vec_items c.in-Ok.verdicts) (verdicts shelf 1 c.args.file.now) c.in-Ok.ensures.1)

pub returns-in-Ok : goal.returns-in-Ok
returns-in-Ok g c =
    read_text (g.S.Shelf.held c.args.shelf.now) c.args.query c.args.file.now (vec_items c.in-Ok.verdicts) c.body.result
    c.in-Ok.ensures (rw c.as_slice.ensures.value at c.body.ensures)
