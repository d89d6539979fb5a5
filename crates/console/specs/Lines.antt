-- The lines of an answer: of a day its date in every calendar of a shelf, and of a year its months.
use Rattle.std.specs.Prelude.{◌≡◌, ℕ, ◌%◌, ◌<◌, List, ◌++◌, length, None, codes, decimal, Option, slice_index_or}
use Rattle.days.specs.declared.weekday.Weekday.{Weekday}
use Rattle.days.specs.Numbers.{remainder, letters}
use Rattle.days.specs.Gregorian.{DateOf}
use Rattle.calendar.specs.declared.dates.NamedDate.{NamedDate}
use Rattle.calendar.specs.declared.sheet.MonthCode.{MonthCode}
use Rattle.calendar.specs.declared.sheet.Sheet.{Sheet}
use Rattle.calendar.specs.Sheets.{Almanac, codes_of, lengths_of}
use Rattle.calendar.specs.Dates.{DateNamed}
use Rattle.calendar.specs.Shelves.{almanac_at}
use Rattle.calendar.specs.Printing.{code_text}
use Rattle.console.specs.Texts.{date_text, digits_text, each_said}

-- the answers are the dates of the day n in the calendars of the shelf, in their order
pub record Everywhere (shelf : List Almanac) (n : ℕ) (answers : List (Option NamedDate)) : Type 0 where
  pub many : length answers ≡ length shelf
  pub each : (i : ℕ) → i < length shelf → DateNamed (almanac_at shelf i) n (slice_index_or answers i None)

-- a calendar's name, and the date there
abbrev pub calendar_text : List ℕ → Option NamedDate → List ℕ
calendar_text name date = codes " " ++ (name ++ (codes " " ++ date_text date))

abbrev pub dates_text : List Almanac → List (Option NamedDate) → List ℕ
dates_text = each_said (λ a. calendar_text a.name)

-- the text is each calendar's name with the date of the day n there
pub record DatesText (shelf : List Almanac) (n : ℕ) (text : List ℕ) : Type 0 where
  pub dates : List (Option NamedDate)
  pub everywhere : Everywhere shelf n dates
  pub says : text ≡ dates_text shelf dates

-- the text begins the line of the day n: its Gregorian date of eight digits, its number and its weekday
pub record DayHead (n : ℕ) (text : List ℕ) : Type 0 where
  pub date : Option (ℕ × ℕ × ℕ)
  pub dated : DateOf n date
  pub weekday : Weekday
  pub falls : remainder weekday ≡ n % 7
  pub says : text ≡ digits_text date ++ (codes " " ++ (decimal n ++ (codes " " ++ letters weekday)))

-- the text is the line of the day n: after that, its date in each calendar of the shelf
pub record DayLine (shelf : List Almanac) (n : ℕ) (text : List ℕ) : Type 0 where
  pub front : List ℕ
  pub begins : DayHead n front
  pub rest : List ℕ
  pub goes_on : DatesText shelf n rest
  pub says : text ≡ front ++ rest

-- a month's code and length
abbrev pub month_text : MonthCode → ℕ → List ℕ
month_text code days = codes " " ++ (code_text code ++ (codes ":" ++ decimal days))

abbrev pub months_text : List MonthCode → List ℕ → List ℕ
months_text = each_said month_text

-- the line of a year: the calendar's name, the year, its first day, and its months
abbrev pub year_line : List ℕ → ℕ → Sheet → List ℕ
year_line name y s =
    name ++ (codes " " ++ (decimal y ++ (codes " first " ++ (decimal s.first ++ (codes " months" ++ months_text (codes_of s) (lengths_of s))))))
