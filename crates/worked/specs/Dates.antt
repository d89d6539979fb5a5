-- Days with their dates, and rules with their days, worked out by hand elsewhere: one statement over a list, of the
-- definitions of the calendars and of rules.
use Rattle.std.specs.Prelude.{◌≡◌, ℕ, zero, suc, ◌+◌, ◌-◌, Bool, List, [], ◌∷◌, length, Some, None, Option, refl}
use Rattle.days.specs.declared.weekday.Weekday.TheVariants.{Monday}
use Rattle.calendar.specs.declared.sheet.MonthCode.{MonthCode}
use Rattle.calendar.specs.declared.dates.NamedDate.{NamedDate}
use Rattle.calendar.specs.Sheets.{Almanac, plain_code, leap_code}
use Rattle.calendar.specs.Dates.{Named}
use Rattle.calendars.specs.Gregorian.{gregorian}
use Rattle.calendars.specs.Islamic.{islamic_civil}
use Rattle.calendars.specs.Hebrew.{hebrew}
use Rattle.sources.specs.Sets.{listed, first_n, Same}
use Rattle.rules.specs.declared.parts.Frequency.{Frequency}
use Rattle.rules.specs.declared.parts.Frequency.TheVariants.{Yearly, Monthly}
use Rattle.rules.specs.declared.parts.Skip.{Skip}
use Rattle.rules.specs.declared.parts.Skip.TheVariants.{Omit, Backward, Forward}
use Rattle.rules.specs.declared.checked.Rule.{Rule}
use Rattle.rules.specs.Meaning.{first_from, gives}

-- the first c days of a set from a day on: each day in turn is looked at, up to the last of the range
abbrev pub and_then : Option ℕ → (ℕ → List ℕ) → List ℕ
and_then None more = []
and_then (Some d) more = d ∷ more (d + 1)

abbrev pub firsts : ℕ → (ℕ → Bool) → ℕ → List ℕ
firsts zero set from = []
firsts (suc c) set from = and_then (first_from set from (803169 - from)) (firsts c set)

pub data Worked : Type 0 where
  -- by the almanac, the date is the day with the number
  date : Almanac → NamedDate → ℕ → Worked
  -- from DTSTART on, the rule gives these days first, and no other day before the last of them
  days : Almanac → Rule → ℕ → List ℕ → Worked
  -- of the days that the rule gives from DTSTART on, COUNT=n leaves these and no other
  counted : Almanac → Rule → ℕ → ℕ → List ℕ → Worked

abbrev pub Holds : Worked → Type 0
Holds (date a t n) = Named a n t
Holds (days a r start ds) = firsts (length ds) (gives a r start) start ≡ ds
Holds (counted a r start n ds) = Same (first_n (gives a r start) n) (listed ds)

abbrev pub AllHold : List Worked → Type 0
AllHold [] = Unit {0}
AllHold (w ∷ ws) = Holds w × AllHold ws

abbrev pub on : ℕ → MonthCode → ℕ → NamedDate
on y c d = record { year = y; code = c; day = d }

-- a rule with no BY parts
abbrev pub bare : Frequency → Skip → Rule
bare f k =
    record {
      parts = record {
        frequency = f;
        interval = 1;
        week_start = Monday;
        skip = k;
        months = [];
        month_days = [];
        weekdays = [];
      };
      checked = refl;
    }

abbrev pub worked_dates : List Worked
worked_dates =
    -- 2012-02-29
    date gregorian (on 2012 (plain_code 2) 29) 734562
    -- 8 Adar I 5774, which fell on 2014-02-08
    ∷ date hebrew (on 5774 (leap_code 5) 8) 735272
    -- the new year of 1445
    ∷ date islamic_civil (on 1445 (plain_code 1) 1) 738720
    -- 2012-02-29 yearly: 2013-03-01 stands in for the day that 2013 lacks, or 2016-02-29 is next
    ∷ days gregorian (bare Yearly Forward) 734562 (734562 ∷ 734928 ∷ [])
    ∷ days gregorian (bare Yearly Omit) 734562 (734562 ∷ 736023 ∷ [])
    -- 2014-01-31 monthly, COUNT=4: 2014-01-31, 2014-03-01, 2014-03-31, 2014-05-01, and no more
    ∷ counted gregorian (bare Monthly Forward) 735264 4 (735264 ∷ 735293 ∷ 735323 ∷ 735354 ∷ [])
    -- 8 Adar I 5774 yearly, which 5775 lacks: 8 Adar, 2015-02-27, or 8 Shevat, 2015-01-28
    ∷ days hebrew (bare Yearly Forward) 735272 (735272 ∷ 735656 ∷ [])
    ∷ days hebrew (bare Yearly Backward) 735272 (735272 ∷ 735626 ∷ [])
    ∷ []
