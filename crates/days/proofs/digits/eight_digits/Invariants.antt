-- What the loop keeps: the check does not find an invariant.
use Rattle.std.proofs.Common.{◌≡◌, ◌-◌, map, length, take, drop}
use Rattle.days.specs.Digits.{first_other}
use Rattle.days.proofs.digits.eight_digits.Given as goal

abbrev pub invariant-loop-i : goal.invariant-loop-i
invariant-loop-i l =
    (length l.digits ≡ 8) × (first_other l.i (drop l.i l.bytes) ≡ first_other 0 l.bytes) ×
    (take l.i l.digits ≡ map (λ b. b - 48) (take l.i l.bytes))
