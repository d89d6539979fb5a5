-- The check does not find it: there are fewer levels than lines, so the count fits.
use Rattle.std.proofs.Common.{arith}
use Rattle.lines.proofs.Few.{few_view}
use Rattle.components.proofs.events.first_named.Goals as goal

pub overflow_add-depth : goal.overflow_add-depth
overflow_add-depth c = omega (arith, few_view c.args.lines)
