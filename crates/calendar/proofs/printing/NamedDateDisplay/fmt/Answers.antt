use Rattle.calendar.proofs.Padding.{padded_hole}
use Rattle.calendar.proofs.printing.NamedDateDisplay.fmt.Goals as goal

pub returns-clause-writes : goal.returns-clause-writes
returns-clause-writes g c =
    let date = c.args.self.now in
    rw (← padded_hole 4 date.year, ← padded_hole 2 date.day) (rw (c.laid_out.ensures, c.laid_out-2.ensures) at c.write.ensures.writes)
