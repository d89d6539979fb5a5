-- What the loop keeps: the check does not find an invariant.
use Rattle.sources.proofs.Counts.{Walked}
use Rattle.sources.proofs.count.last_day.Given as goal

abbrev pub invariant-loop-i : goal.invariant-loop-i
invariant-loop-i g l = Walked (g.S.Source.days l.source) l._i l.at l.last
