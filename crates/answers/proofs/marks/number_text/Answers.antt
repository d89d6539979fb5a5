-- What a hole of a format with zeros before its number writes.
use Rattle.calendar.proofs.Padding.{padded_hole}
use Rattle.answers.proofs.marks.number_text.Goals as goal

pub returns : goal.returns
returns c = rw (← padded_hole 3 c.args.number) (rw c.laid_out.ensures at c.format.ensures.ok)
