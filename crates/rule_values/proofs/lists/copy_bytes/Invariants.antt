-- The check finds no invariant: the bytes to come, stored after those so far, give the whole list.
use Rattle.std.proofs.Common.{◌≡◌, Some}
use Rattle.rule_values.specs.Lists.{at_most}
use Rattle.rule_values.proofs.Stored.{stored_after}
use Rattle.rule_values.proofs.lists.copy_bytes.Given as goal

abbrev pub invariant-loop-b : goal.invariant-loop-b
invariant-loop-b g l = stored_after g.row.N Some l.bytes l.b-iterator ≡ at_most g.row.N (g.B.Bytes.left l.fn.text)
