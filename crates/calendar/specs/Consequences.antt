-- What every lawful calendar has, by the laws alone; and what the laws shut out.
use Rattle.std.specs.Prelude.{◌≡◌, ℕ, ◌+◌, ◌<◌, None}
use Rattle.days.specs.Months.{length_at}
use Rattle.calendar.specs.declared.sheet.MonthCode.{MonthCode}
use Rattle.calendar.specs.Sheets.{Almanac, Answered, Stands, Dated, lengths_of}
use Rattle.calendar.specs.Laws.{Lawful, Covered}
use Rattle.calendar.specs.Dates.{BearsCode}

-- the day n has one date and no other
pub record OneDate (a : Almanac) (n : ℕ) : Type 0 where
  pub year : ℕ
  pub place : ℕ
  pub day : ℕ
  pub stands : Stands a n year place day
  pub only : (y p d : ℕ) → Stands a n y p d → (year ≡ y) × (place ≡ p) × (day ≡ d)

pub record FromTheLaws : Type 0 where
  -- each covered day has exactly one date
  pub one_date_a_day : (a : Almanac) → Lawful a → (n : ℕ) → Covered n → OneDate a n
  -- a date is one day only
  pub one_day_a_date : (a : Almanac) (n m y p d : ℕ) → Stands a n y p d → Stands a m y p d → n ≡ m
  -- after the last day of a month comes the first of the next
  pub months_meet : (a : Almanac) → Lawful a → (n y p : ℕ) → Stands a n y p (length_at (lengths_of (a.sheet y)) p) → p < (a.sheet y).months → Stands a (n + 1) y (p + 1) 1
  -- after the last day of a year comes the first of the next, where that is answered
  pub years_meet : (a : Almanac) → Lawful a → (n y : ℕ) → Stands a n y (a.sheet y).months (length_at (lengths_of (a.sheet y)) (a.sheet y).months) → Answered a (y + 1) → Stands a (n + 1) (y + 1) 1 1
  -- no two months of a year bear the same code
  pub codes_apart : (a : Almanac) → Lawful a → (y : ℕ) (c : MonthCode) (p q : ℕ) → BearsCode (a.sheet y) c p → BearsCode (a.sheet y) c q → p ≡ q

pub record ShutOut : Type 0 where
  -- no lawful calendar answers no year at all, or one only
  pub no_years : (a : Almanac) → ((y : ℕ) → Answered a y → ⊥) → Lawful a → ⊥
  pub one_year : (a : Almanac) (x : ℕ) → ((y : ℕ) → Answered a y → y ≡ x) → Lawful a → ⊥
  -- the date question of a lawful calendar may not answer none for a covered day
  pub no_date : (a : Almanac) → Lawful a → (n : ℕ) → Covered n → Dated a n None → ⊥
