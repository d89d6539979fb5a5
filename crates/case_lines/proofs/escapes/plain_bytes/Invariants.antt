-- What the loop keeps: the check does not find an invariant, nor a measure.
use Rattle.std.proofs.Common.{◌≡◌, ◌++◌, length, vec_items}
use Rattle.std.specs.Option.{option_map}
use Rattle.case_lines.specs.Escapes.{plain}
use Rattle.case_lines.proofs.escapes.plain_bytes.Given as goal

-- the bytes so far, and those of the text that is left
abbrev pub invariant-loop-left : goal.invariant-loop-left
invariant-loop-left l = option_map (λ rest. vec_items l.bytes ++ rest) (plain l.left) ≡ plain l.text

abbrev pub decreases-loop-left : goal.decreases-loop-left
decreases-loop-left l = length l.left
