-- What the loop keeps: the check does not find an invariant.
use Rattle.std.proofs.Common.{◌≡◌, ◌*◌, ◌≤◌, ◌++◌, take, drop, length}
use Rattle.report.specs.Reports.{report}
use Rattle.report.proofs.due.write_lines.Given as goal

-- the lines so far, and the rest of the text as it was
abbrev pub invariant-loop-entry : goal.invariant-loop-entry
invariant-loop-entry l =
    (l.at ≡ 19 * l.entry-index) × (19 * length l.entries ≤ length l.fn.text) × (l.text ≡ report (take l.entry-index l.entries) ++ drop l.at l.fn.text)
