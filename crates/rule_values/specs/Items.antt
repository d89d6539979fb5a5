-- The items of lists: a number and the letters after it.
use Rattle.std.specs.Prelude.{ℕ, Bool, true, false, cond, List, [], ◌∷◌, Some, None, codes, Option}
use Rattle.std.specs.Char.{is_ascii_alphabetic}
use Rattle.calendar.specs.declared.sheet.MonthCode.{MonthCode}
use Rattle.days.specs.declared.weekday.Weekday.{Weekday}
use Rattle.rules.specs.declared.parts.Position.{Position}
use Rattle.rules.specs.declared.parts.ByDay.{ByDay}
use Rattle.text.specs.Letters.{same}
use Rattle.text.specs.Pieces.{until}
use Rattle.rule_values.specs.Numbers.{number_to, position_read}
use Rattle.rule_values.specs.Words.{weekday_read}

-- what stands before the first letter, and what stands from it on
abbrev pub ahead : List ℕ → List ℕ
ahead bs = until is_ascii_alphabetic bs

abbrev pub lettered : List ℕ → List ℕ
lettered [] = []
lettered (b ∷ bs) = cond (is_ascii_alphabetic b) (b ∷ bs) (lettered bs)

-- BYMONTH: a number, with L for a leap month
abbrev pub leap_read : List ℕ → Option Bool
leap_read [] = Some false
leap_read (b ∷ bs) = cond (same (codes "L") (b ∷ bs)) (Some true) None

abbrev pub month_code : Option Bool → Option ℕ → Option MonthCode
month_code None n = None
month_code (Some leap) None = None
month_code (Some leap) (Some n) = Some (record { number = n; leap = leap })

abbrev pub month_code_read : List ℕ → Option MonthCode
month_code_read bs = month_code (leap_read (lettered bs)) (number_to 13 (ahead bs))

-- BYMONTHDAY: a number with or without a sign
abbrev pub month_day_read : List ℕ → Option Position
month_day_read bs = position_read 31 bs

-- BYDAY: a weekday, with or without a number before it
abbrev pub some_position : Option Position → Option (Option Position)
some_position None = None
some_position (Some p) = Some (Some p)

abbrev pub which_read : List ℕ → Option (Option Position)
which_read [] = Some None
which_read (b ∷ bs) = some_position (position_read 53 (b ∷ bs))

abbrev pub by_day : Option Weekday → Option (Option Position) → Option ByDay
by_day None which = None
by_day (Some day) None = None
by_day (Some day) (Some which) = Some (record { weekday = day; position = which })

abbrev pub by_day_read : List ℕ → Option ByDay
by_day_read bs = by_day (weekday_read (lettered bs)) (which_read (ahead bs))
