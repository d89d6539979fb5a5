-- What the loop keeps: the check does not find an invariant.
use Rattle.calendar.proofs.Dating.{Open, gap}
use Rattle.calendar.proofs.search.date_from.Given as goal

abbrev pub invariant-loop-sheet : goal.invariant-loop-sheet
invariant-loop-sheet g l = Open (g.C.Sheets.meaning l.calendar) l.day l.year

abbrev pub decreases-loop-sheet : goal.decreases-loop-sheet
decreases-loop-sheet g l = gap (g.C.Sheets.meaning l.calendar) l.day l.year
