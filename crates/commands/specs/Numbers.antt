-- Numbers in commands: one or more decimal digits, with nothing else before or after them but, where it is taken, a
-- plus.
use Rattle.std.specs.Prelude.{ℕ, ◌+◌, ◌-◌, ◌*◌, Bool, true, cond, ◌&&◌, List, [], ◌∷◌, length, Some, None, Option, nat_le, ◌==◌}
use Rattle.days.specs.Digits.{digit, written_after}
use Rattle.commands.specs.declared.numbers.Numbers.{Numbers}
use Rattle.commands.specs.declared.numbers.Numbers.TheVariants.{Digits, PlusDigits}

abbrev pub all_digits : List ℕ → Bool
all_digits [] = true
all_digits (b ∷ bs) = digit b && all_digits bs

-- a number with a digit more at its end, if it is one and the number stays no larger than the most
abbrev pub longer : ℕ → ℕ → ℕ → Option ℕ
longer most n b = cond (digit b && nat_le (10 * n + (b - 48)) most) (Some (10 * n + (b - 48))) None

-- the number that a word writes, if it is one and no larger than the most
abbrev pub number_read : ℕ → List ℕ → Option ℕ
number_read most bs = cond (nat_le 1 (length bs) && (all_digits bs && nat_le (written_after 0 bs) most)) (Some (written_after 0 bs)) None

-- what is left of a word without a plus at its front
abbrev pub after_plus : List ℕ → List ℕ
after_plus [] = []
after_plus (b ∷ bs) = cond (b == 43) bs (b ∷ bs)

-- the same, of a word that may have a plus before the digits
abbrev pub numeral_read : Numbers → ℕ → List ℕ → Option ℕ
numeral_read Digits most bs = number_read most bs
numeral_read PlusDigits most bs = number_read most (after_plus bs)
