-- The Islamic civil calendar: months of 30 and 29 days in turn, and a twelfth of 30 in eleven years of thirty.
use Rattle.std.specs.Prelude.{ℕ, ◌+◌, ◌-◌, ◌*◌, ◌/◌, ◌%◌, Bool, false, cond, List, [], ◌∷◌, codes, nat_lt}
use Rattle.calendar.specs.declared.sheet.Sheet.{Sheet}
use Rattle.calendar.specs.Sheets.{Almanac}
use Rattle.calendars.specs.Codes.{twelve_codes}
use Rattle.calendars.specs.Span.{in_span}

-- the day on which the year y begins
abbrev pub new_year : ℕ → ℕ
new_year y = 227015 + 354 * (y - 1) + (3 + 11 * y) / 30

abbrev pub leap_year : ℕ → Bool
leap_year y = nat_lt ((14 + 11 * y) % 30) 11

abbrev pub month_lengths : ℕ → List ℕ
month_lengths y = 30 ∷ 29 ∷ 30 ∷ 29 ∷ 30 ∷ 29 ∷ 30 ∷ 29 ∷ 30 ∷ 29 ∷ 30 ∷ cond (leap_year y) 30 29 ∷ 0 ∷ []

abbrev pub islamic_year : ℕ → Sheet
islamic_year y = record { first = new_year y; months = 12; codes = twelve_codes; lengths = month_lengths y }

abbrev pub islamic_civil : Almanac
islamic_civil =
    record { name = codes "islamic-civil"; top = 12; leaps = λ _. false; lowest = 1316; highest = 1628; sheet = in_span islamic_year }
