-- Runs: what was asked of a plan and what it answered, call by call, and what a run has made of the plan.
use Rattle.std.specs.Prelude.{ℕ, zero, suc, ◌+◌, List, [], ◌∷◌, ◌++◌, length, map, Some, None, Option, Bool, slice_index_or}
use Rattle.calendar.specs.Sheets.{Almanac}
use Rattle.series.specs.Record.{Accepted, days_given}
use Rattle.report.specs.declared.entries.FaultEntry.{FaultEntry}
use Rattle.icalendar.specs.Verdicts.{verdicts}
use Rattle.owed.specs.declared.line.Line.{Line}
use Rattle.owed.specs.Lines.{line}
use Rattle.owed.specs.Owed.{owed}
use Rattle.runs.specs.declared.calls.Call.{Call}
use Rattle.runs.specs.declared.calls.Call.TheVariants.{Load, Seek, Draw}
use Rattle.runs.specs.declared.calls.Answer.{Answer}
use Rattle.runs.specs.declared.calls.Answer.TheVariants.{Loaded, Sought, Drawn, NoMore, Refused}
use Rattle.runs.specs.declared.calls.Refusal.{Refusal}
use Rattle.runs.specs.Plans.{Standing, accepted_in, entries_in, sought as sought_mark}

-- what can be asked of a plan: to load a file, to seek a day, or to draw
pub data Request : Type 0 where
  load_of : List ℕ → Request
  seek_to : ℕ → Request
  a_draw : Request

-- a call and its answer
pub data Step : Type 0 where
  -- a file was loaded, which made so many series and so many fault entries
  loaded : List ℕ → ℕ → ℕ → Step
  -- a day was sought, and the mark was answered that stood then
  sought : ℕ → Line → Step
  -- a draw answered a line, or none for "no more"
  drawn : Option Line → Step
  -- a question failed
  refused : Request → Refusal → Step
  -- the answer is one of another kind of call
  mismatched : Step

infixl 30 ◌▸◌
-- the steps since the plan was opened
pub data Run : Type 0 where
  fresh : Run
  ◌▸◌ : Run → Step → Run

-- ── calls and their answers as a run ──

abbrev pub requested : Call → Request
requested (Load file) = load_of file.now
requested (Seek day) = seek_to day
requested Draw = a_draw

abbrev pub happened : Call → Answer → Step
happened (Load file) (Loaded made) = loaded file.now made.series made.faults
happened (Seek day) (Sought stands) = sought day stands
happened Draw (Drawn l) = drawn (Some l)
happened Draw NoMore = drawn None
happened call (Refused question) = refused (requested call) question
happened call answer = mismatched

-- the first n calls with their answers
abbrev pub told : List Call → List Answer → ℕ → Run
told calls answers zero = fresh
told calls answers (suc n) = told calls answers n ▸ happened (slice_index_or calls n Draw) (slice_index_or answers n NoMore)

-- ── what a run has made of the plan, over a shelf and from a window's first day on ──

-- how many files were accepted
abbrev pub files : Run → ℕ
files fresh = 0
files (run ▸ loaded bs n m) = files run + 1
files (run ▸ step) = files run

-- the events that pass every question, of all accepted files in their order
abbrev pub accepted : List Almanac → Run → List Accepted
accepted shelf fresh = []
accepted shelf (run ▸ loaded bs n m) = accepted shelf run ++ accepted_in (verdicts shelf (files run + 1) bs)
accepted shelf (run ▸ step) = accepted shelf run

-- an entry for each of the others, with the first question that it fails
abbrev pub entries : List Almanac → Run → List FaultEntry
entries shelf fresh = []
entries shelf (run ▸ loaded bs n m) = entries shelf run ++ entries_in (files run + 1) 1 (verdicts shelf (files run + 1) bs)
entries shelf (run ▸ step) = entries shelf run

-- the mark: at first before the window's lines; a draw puts it on its line, and a seek before the lines of its day, if that is
-- after the mark's day
abbrev pub mark : ℕ → Run → Line
mark first fresh = line first 0
mark first (run ▸ sought day stands) = sought_mark (mark first run) day
mark first (run ▸ drawn (Some l)) = l
mark first (run ▸ step) = mark first run

-- the lines that were drawn, in turn
abbrev pub lines_drawn : Run → List Line
lines_drawn fresh = []
lines_drawn (run ▸ drawn (Some l)) = lines_drawn run ++ (l ∷ [])
lines_drawn (run ▸ step) = lines_drawn run

-- what the plan keeps
abbrev pub standing : List Almanac → ℕ → ℕ → Run → Standing
standing shelf first last run =
    record { first = first; last = last; mark = mark first run; files = files run; series = length (accepted shelf run); faults = length (entries shelf run) }

-- the days that the accepted events give, one set for each
abbrev pub sets : List Almanac → Run → List (ℕ → Bool)
sets shelf run = map (days_given shelf) (accepted shelf run)

-- the lines that are owed: those of the window after the mark, rising
abbrev pub owed_after : List Almanac → ℕ → ℕ → Run → List Line
owed_after shelf first last run = owed first last (sets shelf run) (mark first run)

-- a run and then draws with these answers
abbrev pub then_draws : Run → List (Option Line) → Run
then_draws run [] = run
then_draws run (answer ∷ answers) = then_draws (run ▸ drawn answer) answers
