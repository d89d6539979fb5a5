-- What is said of a file that is read: a line for each event, or a line for each day that an accepted event gives, and then
-- how many events are accepted and how many are not; or, of a file that is refused, the first question that it fails.
use Rattle.std.specs.Prelude.{◌≡◌, ℕ, ◌%◌, List, [], ◌∷◌, ◌++◌, map, Some, None, Ok, Err, Option, Result, codes, decimal, is_ok, is_err}
use Rattle.std.specs.List.{count_by}
use Rattle.days.specs.declared.weekday.Weekday.{Weekday}
use Rattle.days.specs.Numbers.{remainder, letters}
use Rattle.days.specs.Digits.{date_read}
use Rattle.calendar.specs.Sheets.{Almanac}
use Rattle.calendar.specs.Printing.{padded}
use Rattle.refusals.specs.declared.asked.FileQuestion.{FileQuestion}
use Rattle.refusals.specs.Numbers.{file_number}
use Rattle.refusals.specs.Words.{file_words, words}
use Rattle.series.specs.Record.{Accepted, kept_in, days_given, days_between}
use Rattle.series.specs.declared.record.Series.{Series}
use Rattle.icalendar.specs.declared.fault.Fault.{Fault}
use Rattle.icalendar.specs.Files.{file_read}
use Rattle.icalendar.specs.Verdicts.{verdicts}
use Rattle.commands.specs.declared.command.FileQuery.{FileQuery}
use Rattle.commands.specs.declared.command.FileQuery.TheVariants.{Check, Days}
use Rattle.report.specs.Lines.{fault_text}
use Rattle.listing.specs.Lines.{Lines, numbered}

abbrev pub line_end : List ℕ
line_end = 10 ∷ []

-- ── an event ──

-- a title after a blank, if there is one
abbrev pub title_text : Option (List ℕ) → List ℕ
title_text (Some title) = codes " " ++ title
title_text None = []

-- what becomes of an event, as a series record or a fault has it
abbrev pub verdict_in : Result Series Fault → Result Accepted Fault
verdict_in (Ok s) = Ok (kept_in s)
verdict_in (Err f) = Err f

abbrev pub verdicts_in : List (Result Series Fault) → List (Result Accepted Fault)
verdicts_in = map verdict_in

-- what becomes of an event, in words
abbrev pub verdict_text : Result Accepted Fault → List ℕ
verdict_text (Ok e) = codes "series" ++ title_text e.title
verdict_text (Err f) = codes "fault " ++ (fault_text f ++ (codes " " ++ words f.failed))

-- the line of an event with its number
abbrev pub event_line : ℕ × Result Accepted Fault → List ℕ
event_line v = codes "event " ++ (padded 3 v.0 ++ (codes " " ++ (verdict_text v.1 ++ line_end)))

-- ── its days ──

-- the text is a day: its eight digits and its weekday
pub record DayText (day : ℕ) (text : List ℕ) : Type 0 where
  pub digits : List ℕ
  pub reads : date_read digits ≡ Ok day
  pub weekday : Weekday
  pub falls : remainder weekday ≡ day % 7
  pub says : text ≡ digits ++ (codes " " ++ letters weekday)

-- the line is that of a day of the event of this number
abbrev pub DayLine : ℕ → ℕ → List ℕ → Type 0
DayLine n day line = (text : List ℕ) × DayText day text × (line ≡ padded 3 n ++ (codes " " ++ (text ++ line_end)))

-- the text is the lines of the days that an accepted event gives from one day to another
abbrev pub DayLines : List Almanac → ℕ → ℕ → ℕ × Result Accepted Fault → List ℕ → Type 0
DayLines shelf first last v text =
    elim v.1 [ Ok e ↦ Lines (DayLine v.0) (days_between (days_given shelf e) first last) text | Err f ↦ text ≡ [] ]

-- the text is what is said of an event with its number
abbrev pub Said : List Almanac → FileQuery → ℕ × Result Accepted Fault → List ℕ → Type 0
Said shelf Check v text = text ≡ event_line v
Said shelf (Days first last) v text = DayLines shelf first last v text

-- ── the file ──

-- how many events are accepted and how many are not
abbrev pub totals : {A : Type 0} → List (Result A Fault) → List ℕ
totals vs =
    codes "file " ++ (decimal (count_by is_ok vs) ++ (codes " series " ++ (decimal (count_by is_err vs) ++ (codes " faults" ++ line_end))))

-- the first question that a file fails
abbrev pub refusal : FileQuestion → List ℕ
refusal q = codes "refused " ++ (decimal (file_number q) ++ (codes " " ++ (file_words q ++ line_end)))

-- the text is what is said of each event, and the totals
abbrev pub Body : (ℕ × Result Accepted Fault → List ℕ → Type 0) → List (Result Accepted Fault) → List ℕ → Type 0
Body Says vs text = (front : List ℕ) × Lines Says (numbered 1 vs) front × (text ≡ front ++ totals vs)

-- the text is that, or why the file is refused
abbrev pub Answer : List Almanac → FileQuery → List ℕ → Result ℕ FileQuestion → List ℕ → Type 0
Answer shelf q bs (Ok n) text = Body (Said shelf q) (verdicts shelf 1 bs) text
Answer shelf q bs (Err question) text = text ≡ refusal question

-- the text is the answer to what is asked of a file
abbrev pub FileText : List Almanac → FileQuery → List ℕ → List ℕ → Type 0
FileText shelf q bs = Answer shelf q bs (file_read bs)
