-- Year sheets, and the almanac that a calendar means: what it says of every year. Month places count from 1.
use Rattle.std.specs.Prelude.{◌≡◌, ℕ, ◌+◌, ◌-◌, ◌<◌, ◌≤◌, Bool, true, false, List, take, replicate, Some, Option, slice_index_or}
use Rattle.days.specs.Months.{total, before, Has}
use Rattle.calendar.specs.declared.sheet.MonthCode.{MonthCode}
use Rattle.calendar.specs.declared.sheet.Sheet.{Sheet}

-- the code n and the code nL
abbrev pub plain_code : ℕ → MonthCode
plain_code n = record { number = n; leap = false }

abbrev pub leap_code : ℕ → MonthCode
leap_code n = record { number = n; leap = true }

-- what stands in a place of a sheet that no month uses
abbrev pub no_code : MonthCode
no_code = plain_code 0

-- the sheet of a year that a calendar does not answer
abbrev pub empty_sheet : Sheet
empty_sheet = record { first = 0; months = 0; codes = replicate 13 no_code; lengths = replicate 13 0 }

-- the codes of the months that the year has, and their lengths
abbrev pub codes_of : Sheet → List MonthCode
codes_of s = take s.months s.codes

abbrev pub lengths_of : Sheet → List ℕ
lengths_of s = take s.months s.lengths

-- the days of the year
abbrev pub days_of : Sheet → ℕ
days_of s = total (lengths_of s)

-- the code of the month at place p
abbrev pub code_at : Sheet → ℕ → MonthCode
code_at s p = slice_index_or (codes_of s) (p - 1) no_code

-- What a calendar means: its name, its highest plain month number, the numbers n of the leap codes nL that it may have,
-- and the sheet of each year. The lowest and the highest answered year are no further statement of a calendar:
-- the laws make them those that the sheets show.
pub record Almanac : Type 0 where
  pub name : List ℕ
  pub top : ℕ
  pub leaps : ℕ → Bool
  pub lowest : ℕ
  pub highest : ℕ
  pub sheet : ℕ → Sheet

-- a year is answered if its sheet has months
abbrev pub Answered : Almanac → ℕ → Type 0
Answered a y = 0 < (a.sheet y).months

-- the day n lies in the year y
pub record Within (a : Almanac) (n y : ℕ) : Type 0 where
  pub answered : Answered a y
  pub from : (a.sheet y).first ≤ n
  pub to : n < (a.sheet y).first + days_of (a.sheet y)

-- the day n is day d of the month at place p of the year y; a year that is not answered has no month
pub record Stands (a : Almanac) (n y p d : ℕ) : Type 0 where
  pub has : Has (lengths_of (a.sheet y)) p d
  pub number : n ≡ (a.sheet y).first + before (lengths_of (a.sheet y)) p + (d - 1)

-- the answer is the date of the day n, and none only if n has no date
pub record Dated (a : Almanac) (n : ℕ) (r : Option (ℕ × ℕ × ℕ)) : Type 0 where
  pub stands : (y p d : ℕ) → r ≡ Some (y, p, d) → Stands a n y p d
  pub only : (y p d : ℕ) → Stands a n y p d → r ≡ Some (y, p, d)
