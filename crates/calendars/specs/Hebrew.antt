-- The Hebrew calendar: a year begins at a new moon, reckoned by mean months and put off by up to two days more.
use Rattle.std.specs.Prelude.{ℕ, ◌+◌, ◌-◌, ◌*◌, ◌/◌, ◌%◌, Bool, true, false, cond, ◌||◌, List, [], ◌∷◌, codes, ◌==◌, nat_lt}
use Rattle.calendar.specs.declared.sheet.Sheet.{Sheet}
use Rattle.calendar.specs.Sheets.{Almanac}
use Rattle.calendars.specs.Codes.{twelve_codes, codes_with_5L}
use Rattle.calendars.specs.Span.{in_span}

-- the months before the year y
abbrev pub months_before : ℕ → ℕ
months_before y = (235 * y - 234) / 19

-- the days before the mean new moon that m months lead to
abbrev pub moon_day : ℕ → ℕ
moon_day m = 29 * m + (12084 + 13753 * m) / 25920

-- put off by a day where the weekday may not begin a year
abbrev pub postponed : ℕ → ℕ
postponed t = cond (nat_lt (3 * (t + 1) % 7) 3) (t + 1) t

-- the days before the year y, as yet uncorrected
abbrev pub elapsed : ℕ → ℕ
elapsed y = postponed (moon_day (months_before y))

-- from the days before the last year, this one and the next
abbrev pub correction : ℕ → ℕ → ℕ → ℕ
correction last this next = cond (next - this == 356) 2 (cond (this - last == 382) 1 0)

-- the day on which the year y begins
abbrev pub new_year : ℕ → ℕ
new_year y = elapsed y + correction (elapsed (y - 1)) (elapsed y) (elapsed (y + 1)) - 1373427

abbrev pub leap_year : ℕ → Bool
leap_year y = nat_lt ((7 * y + 1) % 19) 7

-- the months 2 and 3 of a year of n days
abbrev pub second : ℕ → ℕ
second n = cond (n == 355 || n == 385) 30 29

abbrev pub third : ℕ → ℕ
third n = cond (n == 353 || n == 383) 29 30

-- the months of a leap year of n days, and of another year
abbrev pub month_lengths : Bool → ℕ → List ℕ
month_lengths true n = 30 ∷ second n ∷ third n ∷ 29 ∷ 30 ∷ 30 ∷ 29 ∷ 30 ∷ 29 ∷ 30 ∷ 29 ∷ 30 ∷ 29 ∷ []
month_lengths false n = 30 ∷ second n ∷ third n ∷ 29 ∷ 30 ∷ 29 ∷ 30 ∷ 29 ∷ 30 ∷ 29 ∷ 30 ∷ 29 ∷ 0 ∷ []

-- the sheet of a year that begins on the day first and has n days
abbrev pub laid_out : Bool → ℕ → ℕ → Sheet
laid_out leap first n =
    record { first = first; months = cond leap 13 12; codes = cond leap codes_with_5L twelve_codes; lengths = month_lengths leap n }

abbrev pub hebrew_year : ℕ → Sheet
hebrew_year y = laid_out (leap_year y) (new_year y) (new_year (y + 1) - new_year y)

abbrev pub hebrew : Almanac
hebrew = record { name = codes "hebrew"; top = 12; leaps = λ n. (n == 5); lowest = 5659; highest = 5961; sheet = in_span hebrew_year }
