-- The check does not find this: it takes an induction over the items.
use Rattle.std.proofs.Common.{arith}
use Rattle.std.proofs.lemmas.Bool.Decides.{nat_tests}
use Rattle.text.specs.Pieces.{pieces}
use Rattle.rule_values.proofs.Stored.{stored_all}
use Rattle.rule_values.proofs.lists.ShortListForm.read.Goals as goal

pub loop-item-init : goal.loop-item-init
loop-item-init g c = let s = stored_all g.row.N g.T.Form.reading (pieces 44 (g.B.Bytes.left c.args.text)) in grind (arith, nat_tests)
