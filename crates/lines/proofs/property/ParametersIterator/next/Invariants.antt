-- The check finds neither: the walk keeps the parameters that are left, and each turn leaves fewer bytes.
use Rattle.std.proofs.Common.{◌≡◌, length}
use Rattle.lines.specs.Property.{parameters}
use Rattle.lines.proofs.property.ParametersIterator.next.Given as goal

abbrev pub invariant-loop-byte : goal.invariant-loop-byte
invariant-loop-byte g l =
    parameters l.self-inside.bytes.quoted (g.B.Bytes.left l.self-inside.bytes.rest)
    ≡ parameters l.initial.self-inside.bytes.quoted (g.B.Bytes.left l.initial.self-inside.bytes.rest)

abbrev pub decreases-loop-byte : goal.decreases-loop-byte
decreases-loop-byte g l = length (g.B.Bytes.left l.self-inside.bytes.rest)
