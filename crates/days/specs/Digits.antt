-- Dates as files write them: eight digits, four for the year and two each for month and day. And the way back.
use Rattle.std.specs.Prelude.{◌≡◌, ℕ, ◌+◌, ◌-◌, ◌*◌, ◌/◌, ◌%◌, Bool, true, cond, ◌&&◌, List, [], ◌∷◌, map, length, take, drop, Some, None, Ok, Err, Option, Result, ◌==◌, nat_le}
use Rattle.days.specs.declared.digits.DateFault.{DateFault}
use Rattle.days.specs.declared.digits.DateFault.TheVariants.{Length, NoDigit, NoSuchDay}
use Rattle.days.specs.Numbers.{in_range}
use Rattle.days.specs.Gregorian.{day_of_date}

abbrev pub digit : ℕ → Bool
digit b = nat_le 48 b && nat_le b 57

-- the place of the first byte that is no digit, counted from i
abbrev pub first_other : ℕ → List ℕ → Option ℕ
first_other i [] = None
first_other i (b ∷ bs) = cond (digit b) (first_other (i + 1) bs) (Some i)

-- the number that digits write after those of n
abbrev pub written_after : ℕ → List ℕ → ℕ
written_after n [] = n
written_after n (b ∷ bs) = written_after (n * 10 + (b - 48)) bs

abbrev pub year_of : List ℕ → ℕ
year_of bs = written_after 0 (take 4 bs)

abbrev pub month_of : List ℕ → ℕ
month_of bs = written_after 0 (take 2 (drop 4 bs))

abbrev pub day_of : List ℕ → ℕ
day_of bs = written_after 0 (drop 6 bs)

abbrev pub or_no_such_day : Option ℕ → Result ℕ DateFault
or_no_such_day (Some n) = Ok n
or_no_such_day None = Err NoSuchDay

-- the day that eight digits name, unless a byte is no digit
abbrev pub day_named : Option ℕ → List ℕ → Result ℕ DateFault
day_named (Some i) bs = Err (NoDigit i)
day_named None bs = or_no_such_day (day_of_date (year_of bs) (month_of bs) (day_of bs))

-- the day that a text names, or what keeps it from being a real date
abbrev pub date_read : List ℕ → Result ℕ DateFault
date_read bs = cond (length bs == 8) (day_named (first_other 0 bs) bs) (Err Length)

-- the values of eight digits, unless a byte is no digit
abbrev pub values_named : Option ℕ → List ℕ → Result (List ℕ) DateFault
values_named (Some i) bs = Err (NoDigit i)
values_named None bs = Ok (map (λ b. b - 48) bs)

-- the values of the eight digits of a text, or what keeps it from being eight digits
abbrev pub values_read : List ℕ → Result (List ℕ) DateFault
values_read bs = cond (length bs == 8) (values_named (first_other 0 bs) bs) (Err Length)

-- the last digit of n as a byte
abbrev pub last_digit : ℕ → ℕ
last_digit n = 48 + n % 10

-- the eight digits of a date
abbrev pub date_text : ℕ → ℕ → ℕ → List ℕ
date_text y m d =
    last_digit (y / 1000) ∷ last_digit (y / 100) ∷ last_digit (y / 10) ∷ last_digit y ∷
    last_digit (m / 10) ∷ last_digit m ∷ last_digit (d / 10) ∷ last_digit d ∷ []

-- the answer is the text of the day n, the one that reads as n, and there is one exactly if n is in the range
pub record Written (n : ℕ) (r : Option (List ℕ)) : Type 0 where
  pub reads : (bs : List ℕ) → r ≡ Some bs → (in_range n ≡ true) × (date_read bs ≡ Ok n)
  pub only : (bs : List ℕ) → in_range n ≡ true → date_read bs ≡ Ok n → r ≡ Some bs
