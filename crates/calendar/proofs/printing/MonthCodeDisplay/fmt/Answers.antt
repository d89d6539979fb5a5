use Rattle.calendar.proofs.Padding.{padded_hole}
use Rattle.calendar.proofs.printing.MonthCodeDisplay.fmt.Goals as goal
use Rattle.calendar.proofs.printing.MonthCodeDisplay.fmt.Goals.{then-self, else-self}

pub returns-clause-writes : goal.returns-clause-writes
returns-clause-writes g c =
    rw (← padded_hole 2 c.args.self.now.number)
    (elim c.if-self.branch [
      | then-self w ↦ rw w.if-self.true (rw (c.laid_out.ensures, w.mark-is) at c.write.ensures.writes)
      | else-self w ↦ rw w.if-self.false (rw (c.laid_out.ensures, w.mark-is) at c.write.ensures.writes)
    ])
