-- The check finds neither: each byte keeps the lines to come, and each turn leaves fewer bytes.
use Rattle.std.proofs.Common.{◌≡◌, length}
use Rattle.lines.specs.View.{rest}
use Rattle.lines.proofs.cursor.Cursor.skip_line.Given as goal

abbrev pub invariant-loop-self : goal.invariant-loop-self
invariant-loop-self l = (rest l.self).later ≡ (rest l.initial.self).later

abbrev pub decreases-loop-self : goal.decreases-loop-self
decreases-loop-self l = length l.self.rest.now
