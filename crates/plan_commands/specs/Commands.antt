-- Commands on a plan: what the words of a line ask for, or why the line cannot be used.
use Rattle.std.specs.Prelude.{ℕ, cond, List, [], ◌∷◌, map, Some, None, Option, Ok, Err, codes, Result}
use Rattle.std.specs.Option.{option_or}
use Rattle.std.specs.Str.{bytes_eq}
use Rattle.plan_commands.specs.Arguments.{with, date_of, window_read, opening_read, bytes_read, draws_read}
use Rattle.plan_commands.specs.declared.command.PlanCommand.{PlanCommand}
use Rattle.plan_commands.specs.declared.command.PlanCommand.TheVariants.{Open, Load, Seek, Draw, Mark, Close, Report, Waive, Run, List as ListFiles}
use Rattle.plan_commands.specs.declared.command.Draws.{Draws}
use Rattle.plan_commands.specs.declared.command.Draws.TheVariants.{Times}
use Rattle.plan_commands.specs.declared.command.Sizes.{Sizes}
use Rattle.plan_commands.specs.declared.complaint.PlanComplaint.{PlanComplaint}
use Rattle.plan_commands.specs.declared.complaint.PlanComplaint.TheVariants.{LoadWords, SeekWords, DrawWords, AloneWords, ReportWords, ListWords, RunWords}

-- what is asked for, with each name by its bytes
pub data Wanted : Type 0 where
  to_open : ℕ → ℕ → Sizes → Wanted
  to_load : List ℕ → Wanted
  to_seek : ℕ → Wanted
  to_draw : Draws → Wanted
  to_mark : Wanted
  to_close : Wanted
  to_report : Option ℕ → Wanted
  to_waive : Wanted
  to_run : List ℕ → Wanted
  to_list : ℕ → ℕ → List (List ℕ) → Wanted

abbrev pub wants : PlanCommand → Wanted
wants (Open first last sizes) = to_open first last sizes
wants (Load name) = to_load name.now
wants (Seek day) = to_seek day
wants (Draw draws) = to_draw draws
wants Mark = to_mark
wants Close = to_close
wants (Report size) = to_report size
wants Waive = to_waive
wants (Run name) = to_run name.now
wants (ListFiles first last files) = to_list first last (map (λ w. w.now) files.now)

-- what a command that was read asks for, or the complaint
abbrev pub meant : Result PlanCommand PlanComplaint → Result Wanted PlanComplaint
meant (Ok c) = Ok (wants c)
meant (Err e) = Err e

-- the same, where there is one
abbrev pub meant_if : Option (Result PlanCommand PlanComplaint) → Option (Result Wanted PlanComplaint)
meant_if (Some r) = Some (meant r)
meant_if None = None

-- open FIRST LAST [SERIES FAULTS QUEUE]
abbrev pub open_command : List (List ℕ) → Result Wanted PlanComplaint
open_command words = with (opening_read words) (λ o. Ok (to_open o.0.0 o.0.1 o.1))

-- load FILE
abbrev pub load_command : List (List ℕ) → Result Wanted PlanComplaint
load_command (name ∷ []) = Ok (to_load name)
load_command _ = Err LoadWords

-- seek DAY
abbrev pub seek_command : List (List ℕ) → Result Wanted PlanComplaint
seek_command (day ∷ []) = with (date_of day) (λ n. Ok (to_seek n))
seek_command _ = Err SeekWords

-- draw [N|all]
abbrev pub draw_command : List (List ℕ) → Result Wanted PlanComplaint
draw_command [] = Ok (to_draw (Times 1))
draw_command (draws ∷ []) = with (draws_read draws) (λ d. Ok (to_draw d))
draw_command _ = Err DrawWords

-- what is made of the words of a command that takes nothing
abbrev pub alone : List (List ℕ) → Wanted → Result Wanted PlanComplaint
alone [] wanted = Ok wanted
alone _ wanted = Err AloneWords

-- report [SIZE]
abbrev pub report_command : List (List ℕ) → Result Wanted PlanComplaint
report_command [] = Ok (to_report None)
report_command (size ∷ []) = with (bytes_read size) (λ n. Ok (to_report (Some n)))
report_command _ = Err ReportWords

-- list FIRST LAST FILE...
abbrev pub list_files : List ℕ → List ℕ → List (List ℕ) → Result Wanted PlanComplaint
list_files first last [] = Err ListWords
list_files first last (file ∷ files) = with (window_read first last) (λ w. Ok (to_list w.0 w.1 (file ∷ files)))

abbrev pub list_command : List (List ℕ) → Result Wanted PlanComplaint
list_command (first ∷ last ∷ files) = list_files first last files
list_command _ = Err ListWords

-- run FILE
abbrev pub run_command : List (List ℕ) → Result Wanted PlanComplaint
run_command (name ∷ []) = Ok (to_run name)
run_command _ = Err RunWords

-- the commands that a script may have, by the first word
abbrev pub script_command : List ℕ → List (List ℕ) → Option (Result Wanted PlanComplaint)
script_command keyword arguments =
    cond (bytes_eq keyword (codes "open")) (Some (open_command arguments))
    (cond (bytes_eq keyword (codes "load")) (Some (load_command arguments))
    (cond (bytes_eq keyword (codes "seek")) (Some (seek_command arguments))
    (cond (bytes_eq keyword (codes "draw")) (Some (draw_command arguments)) None)))

-- the others, by the first word
abbrev pub other_command : List ℕ → List (List ℕ) → Option (Result Wanted PlanComplaint)
other_command keyword arguments =
    cond (bytes_eq keyword (codes "mark")) (Some (alone arguments to_mark))
    (cond (bytes_eq keyword (codes "close")) (Some (alone arguments to_close))
    (cond (bytes_eq keyword (codes "report")) (Some (report_command arguments))
    (cond (bytes_eq keyword (codes "waive")) (Some (alone arguments to_waive))
    (cond (bytes_eq keyword (codes "list")) (Some (list_command arguments))
    (cond (bytes_eq keyword (codes "run")) (Some (run_command arguments)) None)))))

-- the first word says which command it is, and the others are its arguments; none where it is of no command on a plan
abbrev pub plan_command : List (List ℕ) → Option (Result Wanted PlanComplaint)
plan_command [] = None
plan_command (keyword ∷ arguments) = option_or (script_command keyword arguments) (other_command keyword arguments)
