-- A report: the lines of its entries, one after another; and the questions that it is asked.
use Rattle.std.specs.Prelude.{ℕ, ◌*◌, cond, List, Some, None, Option, nat_le}
use Rattle.std.specs.List.{flat_map}
use Rattle.refusals.specs.declared.asked.PlanQuestion.{PlanQuestion}
use Rattle.refusals.specs.declared.asked.PlanQuestion.TheVariants.{FullTables, RoomForReport}
use Rattle.report.specs.declared.entries.FaultEntry.{FaultEntry}
use Rattle.report.specs.Lines.{entry_line}

abbrev pub report : List FaultEntry → List ℕ
report = flat_map entry_line

-- the first question that fails for a report of so many faults, with a table of so many places and a text buffer of so many
-- bytes: are the faults in the table, and has the buffer 19 bytes for each?
abbrev pub first_failed : ℕ → ℕ → ℕ → Option PlanQuestion
first_failed faults places room = cond (nat_le faults places) (cond (nat_le (19 * faults) room) None (Some RoomForReport)) (Some FullTables)
