-- How a month code is written in a command: a number from 1 to 13 of one or two digits, and L after it for a leap month.
use Rattle.std.specs.Prelude.{ℕ, ◌+◌, ◌-◌, ◌*◌, Bool, true, false, cond, ◌&&◌, ◌||◌, List, [], ◌∷◌, length, take, Some, None, Option, ◌==◌, nat_le, slice_index}
use Rattle.days.specs.Digits.{digit}
use Rattle.calendar.specs.declared.sheet.MonthCode.{MonthCode}

-- the number that one or two digits write, if it is one of a month
abbrev pub month_number : ℕ → Option ℕ
month_number n = cond (nat_le 1 n && nat_le n 13) (Some n) None

abbrev pub month_read : List ℕ → Option ℕ
month_read [] = None
month_read (a ∷ []) = cond (digit a) (month_number (a - 48)) None
month_read (a ∷ b ∷ []) = cond (digit a && digit b) (month_number (10 * (a - 48) + (b - 48))) None
month_read (a ∷ b ∷ c ∷ more) = None

-- the last byte is an L, large or small
abbrev pub marked : List ℕ → Bool
marked bs = slice_index bs (length bs - 1) == 76 || slice_index bs (length bs - 1) == 108

abbrev pub coded : Bool → Option ℕ → Option MonthCode
coded leap (Some n) = Some (record { number = n; leap = leap })
coded leap None = None

abbrev pub code_read : List ℕ → Option MonthCode
code_read bs = cond (marked bs) (coded true (month_read (take (length bs - 1) bs))) (coded false (month_read bs))
