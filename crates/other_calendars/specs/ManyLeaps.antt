-- A calendar of twelve months of 30 and 29 days in turn. A year that 3 does not divide has a leap month as well, of 1, 31,
-- 22 or 30 days; the month that it follows is another one each year.
use Rattle.std.specs.Prelude.{ℕ, ◌+◌, ◌-◌, ◌*◌, ◌/◌, ◌%◌, cond, ◌&&◌, Some, None, List, [], ◌∷◌, ◌++◌, codes, ◌==◌, nat_le, slice_index_or}
use Rattle.std.specs.List.{insert}
use Rattle.calendar.specs.declared.sheet.Sheet.{Sheet}
use Rattle.calendar.specs.Sheets.{Almanac}
use Rattle.calendar.specs.Codes.{year_codes}
use Rattle.other_calendars.specs.Given.{given}

-- the leap month of the year y stands directly after the month of this number, from 1 to 11
abbrev pub leap_number : ℕ → ℕ
leap_number y = (y - 99) % 11 + 1

-- its days
abbrev pub leap_days : ℕ → ℕ
leap_days y = slice_index_or (1 ∷ 31 ∷ 22 ∷ 30 ∷ []) (y % 4) 0

-- of twelve years in turn, from year 100 on, the days before each
abbrev pub days_past : List ℕ
days_past = 0 ∷ 355 ∷ 740 ∷ 1094 ∷ 1478 ∷ 1833 ∷ 2187 ∷ 2563 ∷ 2947 ∷ 3301 ∷ 3686 ∷ 4062 ∷ []

-- the day on which the year y begins: twelve years have 4,416 days, and then their lengths come again
abbrev pub new_year : ℕ → ℕ
new_year y = 693050 + 4416 * ((y - 100) / 12) + slice_index_or days_past ((y - 100) % 12) 0

abbrev pub plain_lengths : List ℕ
plain_lengths = 30 ∷ 29 ∷ 30 ∷ 29 ∷ 30 ∷ 29 ∷ 30 ∷ 29 ∷ 30 ∷ 29 ∷ 30 ∷ 29 ∷ []

-- the same with a leap month of d days after the month n
abbrev pub leap_lengths : ℕ → ℕ → List ℕ
leap_lengths n d = insert plain_lengths n d

abbrev pub common_year : ℕ → Sheet
common_year y = record { first = new_year y; months = 12; codes = year_codes 12 None; lengths = plain_lengths ++ (0 ∷ []) }

abbrev pub leap_year : ℕ → Sheet
leap_year y =
    record {
      first = new_year y;
      months = 13;
      codes = year_codes 12 (Some (leap_number y));
      lengths = leap_lengths (leap_number y) (leap_days y);
    }

abbrev pub many_leaps_year : ℕ → Sheet
many_leaps_year y = cond (y % 3 == 0) (common_year y) (leap_year y)

abbrev pub many_leaps : Almanac
many_leaps =
    record {
      name = codes "leaps12";
      top = 12;
      leaps = λ n. nat_le 1 n && nat_le n 11;
      lowest = 100;
      highest = 400;
      sheet = given 100 400 many_leaps_year;
    }
