-- The check does not find this: it takes an induction over the bytes.
use Rattle.std.proofs.Common.{arith}
use Rattle.std.proofs.lemmas.Bool.Decides.{nat_tests}
use Rattle.rule_values.proofs.Stored.{stored_bytes}
use Rattle.rule_values.proofs.lists.copy_bytes.Goals as goal

pub loop-b-init : goal.loop-b-init
loop-b-init g c = let s = stored_bytes g.row.N (g.B.Bytes.left c.args.text) in grind (arith, nat_tests)
