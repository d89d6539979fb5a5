-- What the loop keeps: the check does not find an invariant, nor a measure.
use Rattle.std.proofs.Common.{◌≡◌, length}
use Rattle.vevent.specs.Questions.{first_too_many}
use Rattle.vevent.proofs.questions.first_too_many.Given as goal

abbrev pub invariant-loop-line : goal.invariant-loop-line
invariant-loop-line l = first_too_many l.room l.line-iterator ≡ first_too_many l.initial.room l.initial.line-iterator

abbrev pub decreases-loop-line : goal.decreases-loop-line
decreases-loop-line l = length l.line-iterator
