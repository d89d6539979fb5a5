-- What a plan keeps, the places of its tables, the questions that its calls are asked in their order, and what a file makes.
use Rattle.std.specs.Prelude.{ℕ, ◌+◌, Bool, cond, ◌&&◌, List, [], ◌∷◌, length, Some, None, Ok, Err, Option, Result, min, nat_le, nat_lt}
use Rattle.days.specs.Numbers.{in_range}
use Rattle.refusals.specs.declared.asked.PlanQuestion.{PlanQuestion}
use Rattle.refusals.specs.declared.asked.PlanQuestion.TheVariants.{FullTables, WindowInRange, WindowInOrder, FewFiles, RoomForSeries, RoomForFaults, DayInWindow, DayNotPassed}
use Rattle.icalendar.specs.declared.fault.Fault.{Fault}
use Rattle.icalendar.specs.Files.{asked, first_failed, events_of}
use Rattle.series.specs.Record.{Accepted}
use Rattle.report.specs.declared.entries.FaultEntry.{FaultEntry}
use Rattle.owed.specs.declared.line.Line.{Line}
use Rattle.owed.specs.Lines.{line}
use Rattle.runs.specs.declared.calls.Places.{Places}
use Rattle.runs.specs.declared.calls.Refusal.{Refusal}
use Rattle.runs.specs.declared.calls.Refusal.TheVariants.{File, Plan}

-- ── a plan ──

-- the first and the last day of a window, the mark, and how many files, series and fault entries there are
pub record Standing : Type 0 where
  pub first : ℕ
  pub last : ℕ
  pub mark : Line
  pub files : ℕ
  pub series : ℕ
  pub faults : ℕ

-- a table of more than 999 places counts as one of 999
abbrev pub counted : ℕ → ℕ
counted places = min places 999

-- a plan that was just opened over a window
abbrev pub opened : ℕ → ℕ → Standing
opened first last = record { first = first; last = last; mark = line first 0; files = 0; series = 0; faults = 0 }

-- ── what a file makes ──

-- the accepted events, in their order
abbrev pub accepted_in : List (Result Accepted Fault) → List Accepted
accepted_in [] = []
accepted_in (Ok event ∷ more) = event ∷ accepted_in more
accepted_in (Err fault ∷ more) = accepted_in more

-- an entry for each of the others, in their order: the number of the file, that of the event, of which the first has the
-- number k, and its fault
abbrev pub entries_in : ℕ → ℕ → List (Result Accepted Fault) → List FaultEntry
entries_in file k [] = []
entries_in file k (Ok event ∷ more) = entries_in file (k + 1) more
entries_in file k (Err fault ∷ more) = record { file = file; event = k; fault = fault } ∷ entries_in file (k + 1) more

-- with a further file, which made so many series and fault entries; the mark stays
abbrev pub with_file : Standing → ℕ → ℕ → Standing
with_file p n m = record p { files = p.files + 1; series = p.series + n; faults = p.faults + m }

-- ── the mark ──

-- before the lines of a day, if that is after the mark's day
abbrev pub sought : Line → ℕ → Line
sought mark day = cond (nat_lt mark.day day) (line day 0) mark

abbrev pub with_mark : Standing → Line → Standing
with_mark p mark = record p { mark = mark }

-- ── questions ──

-- the first of some questions that fails, each given with whether it passes
abbrev pub first_failing : {Q : Type 0} → List (Bool × Q) → Option Q
first_failing [] = None
first_failing ((passes, question) ∷ more) = cond passes (first_failing more) (Some question)

-- the first that failed, or else another
abbrev pub or_else : {Q : Type 0} → Option Q → Option Q → Option Q
or_else (Some question) other = Some question
or_else None other = other

-- each table has all places in use, the queue one for each series
abbrev pub tables_full : Standing → Places → Bool
tables_full p t = nat_le p.series (counted t.series) && (nat_le p.faults (counted t.faults) && nat_le p.series (counted t.queue))

-- of the opening of a plan
abbrev pub open_failed : ℕ → ℕ → Option PlanQuestion
open_failed first last =
    first_failing (
    (in_range first && in_range last, WindowInRange)
    ∷ (nat_le first last, WindowInOrder)
    ∷ [])

-- of a call with tables
abbrev pub tables_failed : Standing → Places → Option PlanQuestion
tables_failed p t = first_failing ((tables_full p t, FullTables) ∷ [])

-- of a seek to a day
abbrev pub seek_failed : Standing → Places → ℕ → Option PlanQuestion
seek_failed p t day =
    first_failing (
    (tables_full p t, FullTables)
    ∷ (nat_le p.first day && nat_le day p.last, DayInWindow)
    ∷ (nat_le p.mark.day day, DayNotPassed)
    ∷ [])

-- whether a table has so many free places beside those in use
abbrev pub has_room : ℕ → ℕ → ℕ → Bool
has_room used more places = nat_le (used + more) (counted places)

-- of the load of a file of so many events, past the questions on the file
abbrev pub room_failed : Standing → Places → ℕ → Option PlanQuestion
room_failed p t events =
    first_failing (
    (nat_lt p.files 999, FewFiles)
    ∷ (has_room p.series events t.series && has_room p.series events t.queue, RoomForSeries)
    ∷ (has_room p.faults events t.faults, RoomForFaults)
    ∷ [])

abbrev pub of_plan : Option PlanQuestion → Option Refusal
of_plan (Some question) = Some (Plan question)
of_plan None = None

abbrev pub of_file : List ℕ → Option Refusal
of_file bs =
    elim (first_failed asked bs) [
      | Some question ↦ Some (File question)
      | None ↦ None
    ]

-- of the load of a file
abbrev pub load_failed : Standing → Places → List ℕ → Option Refusal
load_failed p t bs =
    or_else (of_plan (tables_failed p t)) (or_else (of_file bs) (of_plan (room_failed p t (length (events_of bs)))))
