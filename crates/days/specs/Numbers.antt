-- Day numbers. Day 1 is 1 January of year 1 of the Gregorian calendar, carried back before its introduction.
-- The range is what events may use, the span what calendars may answer. A weekday is a day number's remainder by 7.
use Rattle.std.specs.Prelude.{ℕ, ◌≤◌, Bool, ◌&&◌, List, codes, nat_le}
use Rattle.days.specs.declared.weekday.Weekday.{Weekday}
use Rattle.days.specs.declared.weekday.Weekday.TheVariants.{Sunday, Monday, Tuesday, Wednesday, Thursday, Friday, Saturday}

-- the days from 1900-01-01 to 2199-12-31
abbrev pub in_range : ℕ → Bool
in_range n = nat_le 693596 n && nat_le n 803168

-- the days in which every answered year of a calendar lies
pub record InSpan (n : ℕ) : Type 0 where
  pub from : 693000 ≤ n
  pub to : n ≤ 804000

-- the remainder by 7 of the numbers of the days that fall on a weekday
abbrev pub remainder : Weekday → ℕ
remainder Sunday = 0
remainder Monday = 1
remainder Tuesday = 2
remainder Wednesday = 3
remainder Thursday = 4
remainder Friday = 5
remainder Saturday = 6

-- a weekday's two letters
abbrev pub letters : Weekday → List ℕ
letters Sunday = codes "SU"
letters Monday = codes "MO"
letters Tuesday = codes "TU"
letters Wednesday = codes "WE"
letters Thursday = codes "TH"
letters Friday = codes "FR"
letters Saturday = codes "SA"
