-- The check finds no invariant: no name of the parts so far stands again, so those from here on decide.
use Rattle.std.proofs.Common.{◌≡◌, length}
use Rattle.rrule.specs.Named.{parts, none_twice}
use Rattle.rrule.proofs.named.none_twice.Given as goal

abbrev pub invariant-loop-others : goal.invariant-loop-others
invariant-loop-others g l = none_twice (parts (g.B.Bytes.left l.rest)) ≡ none_twice (parts (g.B.Bytes.left l.fn.rule))

abbrev pub decreases-loop-others : goal.decreases-loop-others
decreases-loop-others g l = length (parts (g.B.Bytes.left l.rest))
