-- The check finds neither: each fold keeps what is left of the line, and each turn leaves fewer bytes.
use Rattle.std.proofs.Common.{◌≡◌, ◌≤◌, length}
use Rattle.lines.specs.View.{rest}
use Rattle.lines.proofs.cursor.Cursor.skip_folds.Given as goal

abbrev pub invariant-loop-self : goal.invariant-loop-self
invariant-loop-self l = (rest l.self ≡ rest l.initial.self) × (length l.self.rest.now ≤ length l.initial.self.rest.now)

abbrev pub decreases-loop-self : goal.decreases-loop-self
decreases-loop-self l = length l.self.rest.now
