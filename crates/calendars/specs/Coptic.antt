-- The Coptic calendar: twelve months of 30 days, and a thirteenth of 5 or 6.
use Rattle.std.specs.Prelude.{ℕ, ◌+◌, ◌-◌, ◌*◌, ◌/◌, ◌%◌, false, cond, List, [], ◌∷◌, codes, ◌==◌}
use Rattle.calendar.specs.declared.sheet.Sheet.{Sheet}
use Rattle.calendar.specs.Sheets.{Almanac}
use Rattle.calendars.specs.Codes.{thirteen_codes}
use Rattle.calendars.specs.Span.{in_span}

-- the day on which the year y begins
abbrev pub new_year : ℕ → ℕ
new_year y = 103605 + 365 * (y - 1) + y / 4

abbrev pub thirteenth : ℕ → ℕ
thirteenth y = cond (y % 4 == 3) 6 5

abbrev pub month_lengths : ℕ → List ℕ
month_lengths y = 30 ∷ 30 ∷ 30 ∷ 30 ∷ 30 ∷ 30 ∷ 30 ∷ 30 ∷ 30 ∷ 30 ∷ 30 ∷ 30 ∷ thirteenth y ∷ []

abbrev pub coptic_year : ℕ → Sheet
coptic_year y = record { first = new_year y; months = 13; codes = thirteen_codes; lengths = month_lengths y }

abbrev pub coptic : Almanac
coptic = record { name = codes "coptic"; top = 13; leaps = λ _. false; lowest = 1615; highest = 1917; sheet = in_span coptic_year }
