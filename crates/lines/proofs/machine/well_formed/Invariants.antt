-- The check does not find it: from the state on, the bytes that are left lead where the line does.
use Rattle.std.proofs.Common.{◌≡◌}
use Rattle.lines.specs.Machine.{run, well_formed}
use Rattle.lines.specs.View.{text}
use Rattle.lines.proofs.machine.well_formed.Given as goal

abbrev pub invariant-loop-b : goal.invariant-loop-b
invariant-loop-b l = run l.state l.b-iterator ≡ well_formed (text l.fn.line)
