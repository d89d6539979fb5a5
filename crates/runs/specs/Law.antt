-- The law over whole runs: what every run of calls on a plan keeps to, whatever is loaded, sought and drawn, in any order.
use Rattle.std.specs.Prelude.{◌≡◌, ℕ, zero, suc, ◌+◌, ◌<◌, List, [], ◌∷◌, length, Some, None, Option, ◌⊎◌}
use Rattle.std.specs.List.{All, Contains}
use Rattle.calendar.specs.Sheets.{Almanac}
use Rattle.icalendar.specs.Verdicts.{verdicts}
use Rattle.owed.specs.declared.line.Line.{Line}
use Rattle.owed.specs.Lines.{line, Before, NotAfter}
use Rattle.owed.specs.Owed.{GivenBy, Rising}
use Rattle.runs.specs.declared.calls.Refusal.{Refusal}
use Rattle.runs.specs.declared.calls.Places.{Places}
use Rattle.runs.specs.Plans.{accepted_in, entries_in, of_plan, tables_failed, seek_failed, load_failed}
use Rattle.runs.specs.Runs.{Request, load_of, seek_to, a_draw, Step, loaded, sought, drawn, refused, mismatched, Run, fresh, ◌▸◌, files, accepted, mark, lines_drawn, standing, sets, owed_after, then_draws}

-- the first line of a list, or none
abbrev pub first_of : List Line → Option Line
first_of [] = None
first_of (l ∷ ls) = Some l

-- what n draws answer where these lines are owed, in turn: each of the lines once, and from then on "no more"
abbrev pub draws : ℕ → List Line → List (Option Line)
draws zero ls = []
draws (suc n) [] = None ∷ draws n []
draws (suc n) (l ∷ ls) = Some l ∷ draws n ls

-- just one of three
abbrev pub JustOne : Type 0 → Type 0 → Type 0 → Type 0
JustOne A B C = (A × (B → ⊥) × (C → ⊥)) ⊎ ((B × (A → ⊥) × (C → ⊥)) ⊎ (C × (A → ⊥) × (B → ⊥)))

-- a day was sought
abbrev pub Went : Run → ℕ → Type 0
Went fresh d = ⊥
Went (run ▸ sought day stands) d = (d ≡ day) ⊎ Went run d
Went (run ▸ step) d = Went run d

-- of a plan over a shelf, a window from `first` to `last`, and tables of these places
module _ (shelf : List Almanac) (first last : ℕ) (places : Places) where
  -- a line of the run: a day in the window that an accepted event gives, with the number of its series
  abbrev pub LineOf : Run → Line → Type 0
  LineOf run l = GivenBy first last (sets shelf run) l

  abbrev pub WasDrawn : Run → Line → Type 0
  WasDrawn run l = Contains (lines_drawn run) l

  -- owed before a seek, and not after it
  abbrev pub Jumped : Run → Line → Type 0
  Jumped fresh l = ⊥
  Jumped (run ▸ sought day stands) l = (LineOf run l × Before (mark first run) l × NotAfter l (mark first (run ▸ sought day stands))) ⊎ Jumped run l
  Jumped (run ▸ step) l = Jumped run l

  -- of a series that was loaded when the mark stood at the line or past it
  abbrev pub Late : Run → Line → Type 0
  Late fresh l = ⊥
  Late (run ▸ loaded bs n m) l = (LineOf (run ▸ loaded bs n m) l × (length (accepted shelf run) < l.series) × NotAfter l (mark first run)) ⊎ Late run l
  Late (run ▸ step) l = Late run l

  -- the first question that fails for a call after a run
  abbrev pub failed_after : Run → Request → Option Refusal
  failed_after run (load_of bs) = load_failed (standing shelf first last run) places bs
  failed_after run (seek_to day) = of_plan (seek_failed (standing shelf first last run) places day)
  failed_after run a_draw = of_plan (tables_failed (standing shelf first last run) places)

  -- A step is right after a run. A call is refused with the first question that fails, and answered where none does: a load with
  -- how many series and fault entries its file makes, a seek with the mark that stands then, a draw with the first of the owed lines, or with none where none is owed.
  abbrev pub RightAfter : Run → Step → Type 0
  RightAfter run (loaded bs n m) =
      (failed_after run (load_of bs) ≡ None)
      × (n ≡ length (accepted_in (verdicts shelf (files run + 1) bs)))
      × (m ≡ length (entries_in (files run + 1) 1 (verdicts shelf (files run + 1) bs)))
  RightAfter run (sought day stands) = (failed_after run (seek_to day) ≡ None) × (stands ≡ mark first (run ▸ sought day stands))
  RightAfter run (drawn answer) = (failed_after run a_draw ≡ None) × (answer ≡ first_of (owed_after shelf first last run))
  RightAfter run (refused request question) = failed_after run request ≡ Some question
  RightAfter run mismatched = ⊥

  -- each step was right after those before it
  abbrev pub EachRight : Run → Type 0
  EachRight fresh = Unit {0}
  EachRight (run ▸ step) = RightAfter run step × EachRight run

  -- the mark stands at the latest of the window's first day, the days sought and the lines drawn
  pub record MarkStands (run : Run) : Type 0 where
    pub after_first : NotAfter (line first 0) (mark first run)
    pub after_drawn : (l : Line) → WasDrawn run l → NotAfter l (mark first run)
    pub after_sought : (d : ℕ) → Went run d → NotAfter (line d 0) (mark first run)
    pub is_one : (mark first run ≡ line first 0) ⊎ (WasDrawn run (mark first run) ⊎ ((d : ℕ) × Went run d × (mark first run ≡ line d 0)))

  -- a line of the run is at or before the mark exactly if it was drawn, jumped or late, and it was just one of these
  pub record MarkDivides (run : Run) : Type 0 where
    pub stands : MarkStands run
    pub passed : (l : Line) → LineOf run l → NotAfter l (mark first run) → JustOne (WasDrawn run l) (Jumped run l) (Late run l)
    pub only : (l : Line) → WasDrawn run l ⊎ (Jumped run l ⊎ Late run l) → LineOf run l × NotAfter l (mark first run)

  -- the lines drawn rise, and each is a line of the run
  pub record LinesRise (run : Run) : Type 0 where
    pub rise : Rising (lines_drawn run)
    pub given : All (LineOf run) (lines_drawn run)

  -- from each point on since which there were draws alone, these answered the lines owed at that point, each once and rising, and
  -- then "no more"
  abbrev pub NothingIsLost : Run → Type 0
  NothingIsLost run = (earlier : Run) (answers : List (Option Line)) → run ≡ then_draws earlier answers → answers ≡ draws (length answers) (owed_after shelf first last earlier)

  pub record Law (run : Run) : Type 0 where
    pub lines_rise : LinesRise run
    pub mark_divides : MarkDivides run
    pub nothing_is_lost : NothingIsLost run
    pub each_right : EachRight run

-- every run whose steps are right, each after those before it, keeps to the law
abbrev pub RightRunsKeepTheLaw : Type 0
RightRunsKeepTheLaw = (shelf : List Almanac) (first last : ℕ) (places : Places) (run : Run) → EachRight shelf first last places run → Law shelf first last places run
