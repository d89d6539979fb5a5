-- Numbers of one to four digits, with bounds and with signs.
use Rattle.std.specs.Prelude.{ℕ, cond, ◌&&◌, List, [], ◌∷◌, length, Some, None, Option, ◌==◌, nat_le}
use Rattle.days.specs.Digits.{digit, written_after}
use Rattle.rules.specs.Parts.{each_of}
use Rattle.rules.specs.declared.parts.Position.{Position}
use Rattle.rules.specs.declared.parts.Position.TheVariants.{FromStart, FromEnd}

-- one to four digits; leading zeros are allowed
abbrev pub number_read : List ℕ → Option ℕ
number_read bs = cond (nat_le 1 (length bs) && (nat_le (length bs) 4 && each_of digit bs)) (Some (written_after 0 bs)) None

-- a number from 1 to `most`
abbrev pub from_one : ℕ → Option ℕ → Option ℕ
from_one most None = None
from_one most (Some n) = cond (nat_le 1 n && nat_le n most) (Some n) None

abbrev pub number_to : ℕ → List ℕ → Option ℕ
number_to most bs = from_one most (number_read bs)

abbrev pub counted : (ℕ → Position) → Option ℕ → Option Position
counted from None = None
counted from (Some n) = Some (from n)

-- a number from 1 to `most`, counted from the end after a minus, and from the start after a plus or with no sign
abbrev pub position_read : ℕ → List ℕ → Option Position
position_read most [] = None
position_read most (b ∷ bs) =
    cond (b == 45) (counted FromEnd (number_to most bs))
    (cond (b == 43) (counted FromStart (number_to most bs)) (counted FromStart (number_to most (b ∷ bs))))
