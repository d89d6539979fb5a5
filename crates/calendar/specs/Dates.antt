-- Dates as people write them: a year, the code of a month and a day. And where a code stands in a year.
use Rattle.std.specs.Prelude.{◌≡◌, ℕ, ◌<◌, ◌≤◌, Bool, ◌&&◌, ◌==◌, Some, None, Option}
use Rattle.std.proofs.Math.Bool.{beq}
use Rattle.calendar.specs.declared.sheet.MonthCode.{MonthCode}
use Rattle.calendar.specs.declared.sheet.Sheet.{Sheet}
use Rattle.calendar.specs.declared.dates.NamedDate.{NamedDate}
use Rattle.calendar.specs.Sheets.{Almanac, Stands, code_at}

-- whether two codes are the same
abbrev pub is_same : MonthCode → MonthCode → Bool
is_same c d = c.number == d.number && beq c.leap d.leap

-- the month at place p of the year bears the code c
pub record BearsCode (s : Sheet) (c : MonthCode) (p : ℕ) : Type 0 where
  pub from : 1 ≤ p
  pub to : p ≤ s.months
  pub same : code_at s p ≡ c

-- the answer is the first place whose month bears the code, or none where no month does
abbrev pub CodeFound : Sheet → MonthCode → Option ℕ → Type 0
CodeFound s c (Some p) = BearsCode s c p × ((q : ℕ) → q < p → BearsCode s c q → ⊥)
CodeFound s c None = (q : ℕ) → BearsCode s c q → ⊥

-- the day n has the date t: its month stands at some place of the year
pub record Named (a : Almanac) (n : ℕ) (t : NamedDate) : Type 0 where
  pub place : ℕ
  pub bears : BearsCode (a.sheet t.year) t.code place
  pub stands : Stands a n t.year place t.day

-- the answer is the date of the day n, and none only if n has no date
pub record DateNamed (a : Almanac) (n : ℕ) (r : Option NamedDate) : Type 0 where
  pub right : (t : NamedDate) → r ≡ Some t → Named a n t
  pub only : (t : NamedDate) → Named a n t → r ≡ Some t

-- the answer is the day of the date t, and none only if no day has that date
pub record DayNamed (a : Almanac) (t : NamedDate) (r : Option ℕ) : Type 0 where
  pub right : (n : ℕ) → r ≡ Some n → Named a n t
  pub only : (n : ℕ) → Named a n t → r ≡ Some n
