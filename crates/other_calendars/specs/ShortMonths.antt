-- A calendar of thirteen months: the second has 1 to 3 days, the seventh and the thirteenth differ from year to year.
use Rattle.std.specs.Prelude.{ℕ, ◌+◌, ◌-◌, ◌*◌, ◌/◌, ◌%◌, false, None, List, [], ◌∷◌, codes, slice_index_or}
use Rattle.calendar.specs.declared.sheet.Sheet.{Sheet}
use Rattle.calendar.specs.Sheets.{Almanac}
use Rattle.calendar.specs.Codes.{year_codes}
use Rattle.other_calendars.specs.Given.{given}

-- the days of the second month: 1, 2 or 3
abbrev pub second : ℕ → ℕ
second y = 1 + y % 3

-- the days of the seventh month: 29, 20 or 28
abbrev pub seventh : ℕ → ℕ
seventh y = slice_index_or (29 ∷ 20 ∷ 28 ∷ []) (y % 3) 0

-- the days of the thirteenth month: three years of 31, three of 25 and three of 20
abbrev pub thirteenth : ℕ → ℕ
thirteenth y = slice_index_or (31 ∷ 25 ∷ 20 ∷ []) (y / 3 % 3) 0

abbrev pub month_lengths : ℕ → List ℕ
month_lengths y = 31 ∷ second y ∷ 31 ∷ 31 ∷ 30 ∷ 31 ∷ seventh y ∷ 31 ∷ 31 ∷ 31 ∷ 31 ∷ 31 ∷ thirteenth y ∷ []

-- of nine years in turn, from year 5 on, the days before each
abbrev pub days_past : List ℕ
days_past = 0 ∷ 365 ∷ 724 ∷ 1075 ∷ 1435 ∷ 1805 ∷ 2167 ∷ 2538 ∷ 2902 ∷ []

-- the day on which the year y begins: nine years have 3,258 days, and then their lengths come again
abbrev pub new_year : ℕ → ℕ
new_year y = 693100 + 3258 * ((y - 5) / 9) + slice_index_or days_past ((y - 5) % 9) 0

abbrev pub short_months_year : ℕ → Sheet
short_months_year y = record { first = new_year y; months = 13; codes = year_codes 13 None; lengths = month_lengths y }

abbrev pub short_months : Almanac
short_months =
    record { name = codes "odd13"; top = 13; leaps = λ _. false; lowest = 5; highest = 310; sheet = given 5 310 short_months_year }
