-- The check does not find it: one more line.
use Rattle.std.proofs.Common.{arith}
use Rattle.report.proofs.Written.{line_more}
use Rattle.report.proofs.due.write_lines.Goals as goal

pub loop-entry-preserved : goal.loop-entry-preserved
loop-entry-preserved c =
    let so = c.loop-entry.invariant in
    let here = so.0 in
    (omega arith, so.1, line_more c.args.entries.now c.loop-entry.entry-index c.loop-entry.at _ c.args.text.now c.loop-entry.text c.write_line.new.text c.loop-entry-test.true here so.2 c.write_line.ensures)
