-- The months of a year by their lengths, and on which day of which month the year is after some whole days.
-- Places count from 1.
use Rattle.std.specs.Prelude.{◌≡◌, ℕ, ◌+◌, ◌-◌, ◌≤◌, List, length, take, sum, Some, None, Option, slice_index}

-- the days of all months together
abbrev pub total : List ℕ → ℕ
total lengths = sum lengths

-- the days before the month at place p
abbrev pub before : List ℕ → ℕ → ℕ
before lengths p = total (take (p - 1) lengths)

-- the length of the month at place p, 0 where there is none
abbrev pub length_at : List ℕ → ℕ → ℕ
length_at lengths p = slice_index lengths (p - 1)

-- the year has a month at place p, and that month a day d
pub record Has (lengths : List ℕ) (p d : ℕ) : Type 0 where
  pub place_from : 1 ≤ p
  pub place_to : p ≤ length lengths
  pub day_from : 1 ≤ d
  pub day_to : d ≤ length_at lengths p

-- after n whole days of the year it is day d of the month at place p
pub record Falls (lengths : List ℕ) (n p d : ℕ) : Type 0 where
  pub has : Has lengths p d
  pub after : n ≡ before lengths p + (d - 1)

-- the answer is the month's place and the day after n whole days of the year, or none where the year is over by then
abbrev pub Placed : List ℕ → ℕ → Option (ℕ × ℕ) → Type 0
Placed lengths n (Some t) = Falls lengths n t.0 t.1
Placed lengths n None = total lengths ≤ n

-- the answer is how many whole days of the year are past on day d of the month at place p, and none exactly if the year
-- has no such day
pub record Counted (lengths : List ℕ) (p d : ℕ) (r : Option ℕ) : Type 0 where
  pub right : (n : ℕ) → r ≡ Some n → Falls lengths n p d
  pub only : (n : ℕ) → Falls lengths n p d → r ≡ Some n
