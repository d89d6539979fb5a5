-- The check finds no invariant: the items to come, stored after those so far, give the whole list.
use Rattle.std.proofs.Common.{◌≡◌}
use Rattle.text.specs.Pieces.{ahead}
use Rattle.rule_values.specs.Lists.{list_read}
use Rattle.rule_values.proofs.Stored.{stored_after}
use Rattle.rule_values.proofs.lists.ShortListForm.read.Given as goal

abbrev pub invariant-loop-item : goal.invariant-loop-item
invariant-loop-item g l = stored_after g.row.N g.T.Form.reading l.items (ahead g.B.Bytes.left l.item-iterator) ≡ list_read g.row.N g.T.Form.reading (g.B.Bytes.left l.fn.text)
