use Rattle.calendar.proofs.Padding.{padded_hole}
use Rattle.console.proofs.lines.digits_text.Goals as goal

pub returns-in-Some : goal.returns-in-Some
returns-in-Some c =
    let date = c.in-Some in
    rw (c.in-Some.is, ← padded_hole 4 date.year, ← padded_hole 2 date.month, ← padded_hole 2 date.day)
    (rw (c.laid_out.ensures, c.laid_out-in-Some.ensures, c.laid_out-in-Some-2.ensures) at c.format.ensures.ok)
