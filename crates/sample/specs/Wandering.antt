-- A calendar of our own, unlike the others: months of 31 and 28 days in turn, and every third year a leap month of 30
-- days, in turn after the third and after the ninth month.
use Rattle.std.specs.Prelude.{ℕ, ◌+◌, ◌-◌, ◌*◌, ◌/◌, ◌%◌, cond, ◌||◌, [], ◌∷◌, ◌++◌, codes, ◌==◌}
use Rattle.calendar.specs.declared.sheet.Sheet.{Sheet}
use Rattle.calendar.specs.Sheets.{Almanac, leap_code, no_code}
use Rattle.calendar.specs.Codes.{plain_codes}
use Rattle.calendars.specs.Span.{in_span}

-- the day on which the year y begins
abbrev pub new_year : ℕ → ℕ
new_year y = 692746 + 354 * y + 30 * ((y - 1) / 3)

-- the sheet of a year that begins on the day first
abbrev pub common_year : ℕ → Sheet
common_year first =
    record {
      first = first;
      months = 12;
      codes = plain_codes 1 12 ++ (no_code ∷ []);
      lengths = 31 ∷ 28 ∷ 31 ∷ 28 ∷ 31 ∷ 28 ∷ 31 ∷ 28 ∷ 31 ∷ 28 ∷ 31 ∷ 28 ∷ 0 ∷ [];
    }

abbrev pub year_with_3L : ℕ → Sheet
year_with_3L first =
    record {
      first = first;
      months = 13;
      codes = plain_codes 1 3 ++ (leap_code 3 ∷ plain_codes 4 9);
      lengths = 31 ∷ 28 ∷ 31 ∷ 30 ∷ 28 ∷ 31 ∷ 28 ∷ 31 ∷ 28 ∷ 31 ∷ 28 ∷ 31 ∷ 28 ∷ [];
    }

abbrev pub year_with_9L : ℕ → Sheet
year_with_9L first =
    record {
      first = first;
      months = 13;
      codes = plain_codes 1 9 ++ (leap_code 9 ∷ plain_codes 10 3);
      lengths = 31 ∷ 28 ∷ 31 ∷ 28 ∷ 31 ∷ 28 ∷ 31 ∷ 28 ∷ 31 ∷ 30 ∷ 28 ∷ 31 ∷ 28 ∷ [];
    }

abbrev pub wandering_year : ℕ → Sheet
wandering_year y =
    cond (y % 6 == 0) (year_with_9L (new_year y)) (cond (y % 3 == 0) (year_with_3L (new_year y)) (common_year (new_year y)))

abbrev pub wandering : Almanac
wandering =
    record { name = codes "wandering"; top = 12; leaps = λ n. (n == 3) || (n == 9); lowest = 1; highest = 304; sheet = in_span wandering_year }
