-- The check finds neither: the walk keeps the value, and each turn leaves fewer bytes.
use Rattle.std.proofs.Common.{◌≡◌, length}
use Rattle.lines.specs.Property.{after, value}
use Rattle.lines.specs.View.{text}
use Rattle.lines.proofs.property.value_of.Given as goal

abbrev pub invariant-loop-byte : goal.invariant-loop-byte
invariant-loop-byte l = after l.bytes.quoted 58 (text l.bytes.rest) ≡ value (text l.line)

abbrev pub decreases-loop-byte : goal.decreases-loop-byte
decreases-loop-byte l = length (text l.bytes.rest)
