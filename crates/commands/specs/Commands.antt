-- Commands: what the words of a line ask for, or why the line cannot be used.
use Rattle.std.specs.Prelude.{ℕ, ◌-◌, ◌^◌, cond, List, [], ◌∷◌, Ok, Err, codes, Result}
use Rattle.std.specs.Option.{ok_or}
use Rattle.std.specs.Str.{bytes_eq}
use Rattle.days.specs.Digits.{date_read}
use Rattle.calendar.specs.declared.dates.NamedDate.{NamedDate}
use Rattle.commands.specs.declared.command.Command.{Command}
use Rattle.commands.specs.declared.command.Command.TheVariants.{Dates, File}
use Rattle.commands.specs.declared.command.DateQuery.{DateQuery}
use Rattle.commands.specs.declared.command.DateQuery.TheVariants.{Date, Day, Year}
use Rattle.commands.specs.declared.command.FileQuery.{FileQuery}
use Rattle.commands.specs.declared.command.FileQuery.TheVariants.{Check, Days}
use Rattle.commands.specs.declared.complaint.Complaint.{Complaint}
use Rattle.commands.specs.declared.complaint.Complaint.TheVariants.{Unknown, DateWords, DayWords, YearWords, CheckWords, DaysWords, BadDate, BadYear, BadCode, BadDay}
use Rattle.commands.specs.Words.{words}
use Rattle.commands.specs.Numbers.{numeral_read}
use Rattle.commands.specs.declared.numbers.Numbers.{Numbers}
use Rattle.commands.specs.declared.numbers.Numbers.TheVariants.{Digits}
use Rattle.commands.specs.Codes.{code_read}

-- what is asked of the calendars: the day of a date of eight digits, a date of a calendar by the calendar's name, or a year of
-- one
pub data Asked : Type 0 where
  for_date : ℕ → Asked
  for_day : List ℕ → NamedDate → Asked
  for_year : List ℕ → ℕ → Asked

-- what is asked for: something of the calendars, or of the file of a name
pub data Wanted : Type 0 where
  of_dates : Asked → Wanted
  of_file : List ℕ → FileQuery → Wanted

abbrev pub asks : DateQuery → Asked
asks (Date n) = for_date n
asks (Day name t) = for_day name.now t
asks (Year name y) = for_year name.now y

abbrev pub wants : Command → Wanted
wants (Dates q) = of_dates (asks q)
wants (File name q) = of_file name.now q

-- what a command that was read asks for, or the complaint
abbrev pub meant : Result Command Complaint → Result Wanted Complaint
meant (Ok c) = Ok (wants c)
meant (Err e) = Err e

-- what is made of a value, where there is one
abbrev pub with : {T U : Type 0} → Result T Complaint → (T → Result U Complaint) → Result U Complaint
with (Ok x) f = f x
with (Err e) f = Err e

-- a year is a number of 32 bits, and a day one of 8
abbrev pub year_read : Numbers → List ℕ → Result ℕ Complaint
year_read numbers word = ok_or (numeral_read numbers (2 ^ 32 - 1) word) BadYear

abbrev pub day_read : Numbers → List ℕ → Result ℕ Complaint
day_read numbers word = ok_or (numeral_read numbers 255 word) BadDay

-- a date by the words for its year, its month code and its day
abbrev pub named_read : Numbers → List ℕ → List ℕ → List ℕ → Result NamedDate Complaint
named_read numbers year code day =
    with (year_read numbers year) (λ y. with (ok_or (code_read code) BadCode) (λ c. with (day_read numbers day) (λ d. Ok (record { year = y; code = c; day = d }))))

-- a day by its date of eight digits
abbrev pub date_of : List ℕ → Result ℕ Complaint
date_of word = elim (date_read word) [ Ok n ↦ Ok n | Err fault ↦ Err (BadDate fault) ]

-- date DATE
abbrev pub date_command : List (List ℕ) → Result Wanted Complaint
date_command [] = Err DateWords
date_command (date ∷ []) = with (date_of date) (λ n. Ok (of_dates (for_date n)))
date_command (date ∷ w ∷ more) = Err DateWords

-- day CALENDAR YEAR CODE DAY
abbrev pub day_command : Numbers → List (List ℕ) → Result Wanted Complaint
day_command numbers [] = Err DayWords
day_command numbers (name ∷ []) = Err DayWords
day_command numbers (name ∷ year ∷ []) = Err DayWords
day_command numbers (name ∷ year ∷ code ∷ []) = Err DayWords
day_command numbers (name ∷ year ∷ code ∷ day ∷ []) = with (named_read numbers year code day) (λ t. Ok (of_dates (for_day name t)))
day_command numbers (name ∷ year ∷ code ∷ day ∷ w ∷ more) = Err DayWords

-- year CALENDAR YEAR
abbrev pub year_command : Numbers → List (List ℕ) → Result Wanted Complaint
year_command numbers [] = Err YearWords
year_command numbers (name ∷ []) = Err YearWords
year_command numbers (name ∷ year ∷ []) = with (year_read numbers year) (λ y. Ok (of_dates (for_year name y)))
year_command numbers (name ∷ year ∷ w ∷ more) = Err YearWords

-- check FILE
abbrev pub check_command : List (List ℕ) → Result Wanted Complaint
check_command [] = Err CheckWords
check_command (name ∷ []) = Ok (of_file name Check)
check_command (name ∷ w ∷ more) = Err CheckWords

-- days FILE FIRST LAST
abbrev pub days_command : List (List ℕ) → Result Wanted Complaint
days_command [] = Err DaysWords
days_command (name ∷ []) = Err DaysWords
days_command (name ∷ first ∷ []) = Err DaysWords
days_command (name ∷ first ∷ last ∷ []) = with (date_of first) (λ a. with (date_of last) (λ b. Ok (of_file name (Days a b))))
days_command (name ∷ first ∷ last ∷ w ∷ more) = Err DaysWords

-- of these two the first word says which it is
abbrev pub file_command : List ℕ → List (List ℕ) → Result Wanted Complaint
file_command keyword arguments =
    cond (bytes_eq keyword (codes "check")) (check_command arguments)
    (cond (bytes_eq keyword (codes "days")) (days_command arguments) (Err Unknown))

-- the first word says which command it is, and the others are its arguments
abbrev pub command_by : Numbers → List ℕ → List (List ℕ) → Result Wanted Complaint
command_by numbers keyword arguments =
    cond (bytes_eq keyword (codes "date")) (date_command arguments)
    (cond (bytes_eq keyword (codes "day")) (day_command numbers arguments)
    (cond (bytes_eq keyword (codes "year")) (year_command numbers arguments) (file_command keyword arguments)))

abbrev pub command_of : Numbers → List (List ℕ) → Result Wanted Complaint
command_of numbers [] = Err Unknown
command_of numbers (keyword ∷ arguments) = command_by numbers keyword arguments

-- a line's words stand between blanks, and its numbers have no sign
abbrev pub command_read : List ℕ → Result Wanted Complaint
command_read line = command_of Digits (words line)
