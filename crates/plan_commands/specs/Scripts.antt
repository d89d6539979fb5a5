-- Lines of a script: the commands that it may have.
use Rattle.std.specs.Prelude.{ℕ, List, [], ◌∷◌, Some, None, Option, Ok, Err, Result}
use Rattle.plan_commands.specs.Arguments.{with}
use Rattle.plan_commands.specs.Commands.{Wanted, to_open, to_load, to_seek, to_draw, script_command}
use Rattle.plan_commands.specs.declared.command.Draws.TheVariants.{Times}
use Rattle.plan_commands.specs.declared.complaint.PlanComplaint.{PlanComplaint}
use Rattle.plan_commands.specs.declared.complaint.PlanComplaint.TheVariants.{NotInScript}
use Rattle.plan_commands.specs.declared.script.ScriptLine.{ScriptLine}
use Rattle.plan_commands.specs.declared.script.ScriptLine.TheVariants.{Open, Load, Seek, Draw}

-- the command that a line is
abbrev pub as_command : ScriptLine → Wanted
as_command (Open first last sizes) = to_open first last sizes
as_command (Load name) = to_load name.now
as_command (Seek day) = to_seek day
as_command (Draw times) = to_draw (Times times)

-- the command that a line that was read is, or the complaint
abbrev pub scripted : Result ScriptLine PlanComplaint → Result Wanted PlanComplaint
scripted (Ok line) = Ok (as_command line)
scripted (Err e) = Err e

-- a plan is opened, a file loaded, a day sought, or a number of lines drawn: a script has no other command, and does not draw
-- all lines
abbrev pub in_script : Wanted → Result Wanted PlanComplaint
in_script (to_open first last sizes) = Ok (to_open first last sizes)
in_script (to_load name) = Ok (to_load name)
in_script (to_seek day) = Ok (to_seek day)
in_script (to_draw (Times n)) = Ok (to_draw (Times n))
in_script _ = Err NotInScript

-- what becomes of a command, if there is one by that word
abbrev pub line_of : Option (Result Wanted PlanComplaint) → Result Wanted PlanComplaint
line_of (Some r) = with r in_script
line_of None = Err NotInScript

abbrev pub script_line : List (List ℕ) → Result Wanted PlanComplaint
script_line [] = Err NotInScript
script_line (keyword ∷ arguments) = line_of (script_command keyword arguments)
