-- A plan with the tables that it is lent: what its calls keep, what a run of calls has led to, and what it is for a call to go on
-- with any run.
use Rattle.std.specs.Prelude.{◌≡◌, ℕ, ◌≤◌, Bool, List, length, take, drop, Some, None, Ok, Err, Option, Result}
use Rattle.std.specs.List.{All}
use Rattle.calendar.specs.Sheets.{Almanac}
use Rattle.refusals.specs.declared.asked.PlanQuestion.{PlanQuestion}
use Rattle.series.specs.declared.record.Series.{Series}
use Rattle.series.specs.Record.{Ready}
use Rattle.report.specs.declared.entries.FaultEntry.{FaultEntry}
use Rattle.owed.specs.declared.line.Line.{Line}
use Rattle.heads.specs.Heads.{sets_of, Heads}
use Rattle.intake.specs.Stored.{AllKeep}
use Rattle.runs.specs.declared.calls.Answer.{Answer}
use Rattle.runs.specs.declared.calls.Answer.TheVariants.{Refused}
use Rattle.runs.specs.declared.calls.Call.{Call}
use Rattle.runs.specs.declared.calls.Call.TheVariants.{Load, Seek, Draw}
use Rattle.runs.specs.declared.calls.Made.{Made}
use Rattle.runs.specs.declared.calls.Places.{Places}
use Rattle.runs.specs.declared.calls.Refusal.{Refusal}
use Rattle.runs.specs.declared.calls.Refusal.TheVariants.{Plan as OfPlan}
use Rattle.runs.specs.Plans.{Standing, opened, load_failed, seek_failed, tables_failed, of_plan}
use Rattle.runs.specs.Runs.{Step, Run, load_of, seek_to, a_draw, loaded, sought, drawn, refused, ◌▸◌, accepted, entries, standing}
use Rattle.runs.specs.Law.{Law}
use Rattle.plan.specs.declared.tables.Tables.{Tables}

-- ── a plan and its tables ──

-- what a plan keeps, with how many heads stand in the queue
pub record Held : Type 0 where
  pub standing : Standing
  pub queued : ℕ

-- a plan that was just opened over a window
abbrev pub fresh_plan : ℕ → ℕ → Held
fresh_plan first last = record { standing = opened first last; queued = 0 }

-- a plan and the three tables that it is lent
pub record Lent : Type 0 where
  pub plan : Held
  pub series : List Series
  pub faults : List FaultEntry
  pub queue : List Line

abbrev pub lent : Held → Tables → Lent
lent plan tables = record { plan = plan; series = tables.series.now; faults = tables.faults.now; queue = tables.queue.now }

-- how many places the tables have
abbrev pub places_of : Lent → Places
places_of s = record { series = length s.series; faults = length s.faults; queue = length s.queue }

abbrev pub places : Tables → Places
places tables = record { series = length tables.series.now; faults = length tables.faults.now; queue = length tables.queue.now }

-- the records in use
abbrev pub records_in_use : Lent → List Series
records_in_use s = take s.plan.standing.series s.series

-- the days of each series in use
abbrev pub sets_in_use : List Almanac → Lent → List (ℕ → Bool)
sets_in_use shelf s = sets_of shelf (records_in_use s)

-- The tables are as the plan's own calls over this shelf leave them: each record in use can be asked for its days, and the queue
-- holds heads that stand for all lines after the mark.
pub record Own (shelf : List Almanac) (s : Lent) : Type 0 where
  pub ready : All (Ready shelf) (records_in_use s)
  pub heads : Heads s.plan.standing.first s.plan.standing.last (sets_in_use shelf s) s.plan.standing.mark s.queue s.plan.queued 0

-- ── after a run ──

-- A run has led to the plan and its tables: it keeps the law, the plan keeps what the run makes of it, and the places in use hold
-- just the records and the entries of the files' events, in their order.
pub record Stands (shelf : List Almanac) (first last : ℕ) (room : Places) (run : Run) (s : Lent) : Type 0 where
  pub law : Law shelf first last room run
  pub plan : s.plan.standing ≡ standing shelf first last run
  pub rooms : places_of s ≡ room
  pub records : AllKeep shelf (records_in_use s) (accepted shelf run)
  pub entered : take s.plan.standing.faults s.faults ≡ entries shelf run
  pub own : Own shelf s

-- whatever run led to the plan and its tables as they were, that run with this step leads to them as they are
abbrev pub LeadsOn : List Almanac → Step → Lent → Lent → Type 0
LeadsOn shelf step old new =
    (first last : ℕ) (room : Places) (run : Run) → Stands shelf first last room run old → Stands shelf first last room (run ▸ step) new

-- ── the steps of the calls ──

abbrev pub load_step : List ℕ → Result Made Refusal → Step
load_step bs (Ok made) = loaded bs made.series made.faults
load_step bs (Err question) = refused (load_of bs) question

abbrev pub seek_step : ℕ → Result Line PlanQuestion → Step
seek_step day (Ok stands) = sought day stands
seek_step day (Err question) = refused (seek_to day) (OfPlan question)

abbrev pub draw_step : Result (Option Line) PlanQuestion → Step
draw_step (Ok answer) = drawn answer
draw_step (Err question) = refused a_draw (OfPlan question)

-- ── a call of any kind ──

-- the first question that fails for a call
abbrev pub call_failed : Standing → Places → Call → Option Refusal
call_failed p t (Load file) = load_failed p t file.now
call_failed p t (Seek day) = of_plan (seek_failed p t day)
call_failed p t Draw = of_plan (tables_failed p t)

-- the question that an answer refuses a call with, if it does
abbrev pub refusal_in : Answer → Option Refusal
refusal_in (Refused question) = Some question
refusal_in answer = None

-- ── places that no call writes ──

-- A plan's call, or more of them, led from one to the other: as many places are in use, or more, and those past them hold what they
-- held. Of the queue one place for each series counts as in use.
pub record Untouched (old new : Lent) : Type 0 where
  pub more_series : old.plan.standing.series ≤ new.plan.standing.series
  pub more_faults : old.plan.standing.faults ≤ new.plan.standing.faults
  pub series : drop new.plan.standing.series new.series ≡ drop new.plan.standing.series old.series
  pub faults : drop new.plan.standing.faults new.faults ≡ drop new.plan.standing.faults old.faults
  pub queue : drop new.plan.standing.series new.queue ≡ drop new.plan.standing.series old.queue
