-- A calendar that bears the name gregorian, too: eleven months of 30 days, and a twelfth of 31.
use Rattle.std.specs.Prelude.{ℕ, ◌+◌, ◌-◌, ◌*◌, false, None, List, [], ◌∷◌, codes}
use Rattle.calendar.specs.declared.sheet.Sheet.{Sheet}
use Rattle.calendar.specs.Sheets.{Almanac}
use Rattle.calendar.specs.Codes.{year_codes}
use Rattle.other_calendars.specs.Given.{given}

-- the day on which the year y begins: each year has 361 days
abbrev pub new_year : ℕ → ℕ
new_year y = 693200 + 361 * (y - 40)

abbrev pub month_lengths : List ℕ
month_lengths = 30 ∷ 30 ∷ 30 ∷ 30 ∷ 30 ∷ 30 ∷ 30 ∷ 30 ∷ 30 ∷ 30 ∷ 30 ∷ 31 ∷ 0 ∷ []

abbrev pub same_name_year : ℕ → Sheet
same_name_year y = record { first = new_year y; months = 12; codes = year_codes 12 None; lengths = month_lengths }

abbrev pub same_name : Almanac
same_name =
    record { name = codes "gregorian"; top = 12; leaps = λ _. false; lowest = 40; highest = 345; sheet = given 40 345 same_name_year }
