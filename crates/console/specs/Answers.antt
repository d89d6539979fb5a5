-- What is asked of the calendars is found on a shelf and said in a line of text, or gets a complaint.
use Rattle.std.specs.Prelude.{◌≡◌, ℕ, List, Some, None, Option, Ok, Err, string_bytes, codes, Result, String}
use Rattle.calendar.specs.declared.dates.NamedDate.{NamedDate}
use Rattle.calendar.specs.Sheets.{Almanac, Answered}
use Rattle.calendar.specs.Dates.{Named}
use Rattle.calendar.specs.Shelves.{almanac_at, FirstBearing, Bears}
use Rattle.commands.specs.declared.complaint.Complaint.{Complaint}
use Rattle.commands.specs.declared.complaint.Complaint.TheVariants.{NoCalendar}
use Rattle.commands.specs.Commands.{Asked, for_date, for_day, for_year}
use Rattle.console.specs.declared.answers.AnswerError.{AnswerError}
use Rattle.console.specs.declared.answers.AnswerError.TheVariants.{Complained, OutOfMemory}
use Rattle.console.specs.declared.answers.Reply.{Reply}
use Rattle.console.specs.declared.answers.Reply.TheVariants.{Day, Year}
use Rattle.console.specs.Lines.{DayLine, year_line}

-- what is found in the calendar of a name, or that no calendar bears the name
abbrev pub ByName : List Almanac → List ℕ → (ℕ → Option Reply → Type 0) → Result (Option Reply) Complaint → Type 0
ByName shelf name Says (Ok reply) = (i : ℕ) × FirstBearing shelf name i × Says i reply
ByName shelf name Says (Err c) = (c ≡ NoCalendar) × ((k : ℕ) → Bears shelf name k → ⊥)

-- the day that has the date t, or that none has it
abbrev pub SaysDay : Almanac → NamedDate → Option Reply → Type 0
SaysDay a t (Some (Day n)) = Named a n t
SaysDay a t (Some (Year i y s)) = ⊥
SaysDay a t None = (n : ℕ) → Named a n t → ⊥

-- the sheet of the year y, or that it is not answered
abbrev pub SaysYear : Almanac → ℕ → ℕ → Option Reply → Type 0
SaysYear a i y (Some (Day n)) = ⊥
SaysYear a i y (Some (Year j z s)) = (j ≡ i) × (z ≡ y) × (s ≡ a.sheet y) × Answered a y
SaysYear a i y None = (a.sheet y).months ≡ 0

-- what is found for what is asked
abbrev pub Replied : List Almanac → Asked → Result (Option Reply) Complaint → Type 0
Replied shelf (for_date n) r = r ≡ Ok (Some (Day n))
Replied shelf (for_day name t) r = ByName shelf name (λ i. SaysDay (almanac_at shelf i) t) r
Replied shelf (for_year name y) r = ByName shelf name (λ i. SaysYear (almanac_at shelf i) i y) r

-- the text is the line that says what is found
abbrev pub InLine : List Almanac → Option Reply → List ℕ → Type 0
InLine shelf (Some (Day n)) text = DayLine shelf n text
InLine shelf (Some (Year i y s)) text = text ≡ year_line (almanac_at shelf i).name y s
InLine shelf None text = text ≡ codes "none"

-- the answer says what is found: its line, or the complaint
abbrev pub Told : List Almanac → Result (Option Reply) Complaint → Result (List ℕ) Complaint → Type 0
Told shelf (Ok reply) (Ok text) = InLine shelf reply text
Told shelf (Ok reply) (Err e) = ⊥
Told shelf (Err e) (Ok text) = ⊥
Told shelf (Err e) (Err f) = f ≡ e

-- the answer to what is asked
pub record Answers (shelf : List Almanac) (a : Asked) (r : Result (List ℕ) Complaint) : Type 0 where
  pub found : Result (Option Reply) Complaint
  pub right : Replied shelf a found
  pub says : Told shelf found r

-- an answer as its text, or the complaint; neither where memory ran out
abbrev pub as_text : {Z : Type 0} → Result (String Z) AnswerError → Option (Result (List ℕ) Complaint)
as_text (Ok text) = Some (Ok (string_bytes text))
as_text (Err (Complained e)) = Some (Err e)
as_text (Err (OutOfMemory e)) = None
