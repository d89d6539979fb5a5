-- The Gregorian calendar as an almanac.
use Rattle.std.specs.Prelude.{ℕ, false, [], ◌∷◌, ◌++◌, codes}
use Rattle.days.specs.Gregorian.{new_year, month_lengths}
use Rattle.calendar.specs.declared.sheet.Sheet.{Sheet}
use Rattle.calendar.specs.Sheets.{Almanac}
use Rattle.calendars.specs.Codes.{twelve_codes}
use Rattle.calendars.specs.Span.{in_span}

abbrev pub gregorian_year : ℕ → Sheet
gregorian_year y = record { first = new_year y; months = 12; codes = twelve_codes; lengths = month_lengths y ++ (0 ∷ []) }

abbrev pub gregorian : Almanac
gregorian = record { name = codes "gregorian"; top = 12; leaps = λ _. false; lowest = 1899; highest = 2201; sheet = in_span gregorian_year }
