-- The Gregorian calendar: when a year begins, how long its months are, and which day a date is.
use Rattle.std.specs.Prelude.{◌≡◌, ℕ, ◌+◌, ◌-◌, ◌*◌, ◌/◌, ◌%◌, ◌<◌, ◌≤◌, Bool, cond, not, ◌&&◌, ◌||◌, List, [], ◌∷◌, Some, None, Option, ◌==◌, nat_le}
use Rattle.days.specs.Months.{before, length_at}

-- the day on which the year y begins
abbrev pub new_year : ℕ → ℕ
new_year y = 1 + 365 * (y - 1) + (y - 1) / 4 - (y - 1) / 100 + (y - 1) / 400

abbrev pub leap_year : ℕ → Bool
leap_year y = (y % 4 == 0 && not (y % 100 == 0)) || y % 400 == 0

abbrev pub february : ℕ → ℕ
february y = cond (leap_year y) 29 28

abbrev pub month_lengths : ℕ → List ℕ
month_lengths y = 31 ∷ february y ∷ 31 ∷ 30 ∷ 31 ∷ 30 ∷ 31 ∷ 31 ∷ 30 ∷ 31 ∷ 30 ∷ 31 ∷ []

-- the years 1 to 9999 have twelve months each, and a month its days
abbrev pub real : ℕ → ℕ → ℕ → Bool
real y m d = (nat_le 1 y && nat_le y 9999) && ((nat_le 1 m && nat_le m 12) && (nat_le 1 d && nat_le d (length_at (month_lengths y) m)))

-- the day d of month m of year y
abbrev pub day_number : ℕ → ℕ → ℕ → ℕ
day_number y m d = new_year y + before (month_lengths y) m + (d - 1)

-- the day of a real date, or none
abbrev pub day_of_date : ℕ → ℕ → ℕ → Option ℕ
day_of_date y m d = cond (real y m d) (Some (day_number y m d)) None

-- the year y has the day n
pub record InYear (n y : ℕ) : Type 0 where
  pub year_from : 1 ≤ y
  pub year_to : y ≤ 9999
  pub begun : new_year y ≤ n
  pub not_over : n < new_year (y + 1)

-- the answer is the date of the day n, and none exactly if no real date has that number
pub record DateOf (n : ℕ) (r : Option (ℕ × ℕ × ℕ)) : Type 0 where
  pub right : (y m d : ℕ) → r ≡ Some (y, m, d) → day_of_date y m d ≡ Some n
  pub only : (y m d : ℕ) → day_of_date y m d ≡ Some n → r ≡ Some (y, m, d)
