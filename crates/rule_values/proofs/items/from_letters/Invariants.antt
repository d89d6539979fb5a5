-- The check finds no invariant: from each byte on, the same letters are to come.
use Rattle.std.proofs.Common.{◌≡◌, length}
use Rattle.rule_values.specs.Items.{lettered}
use Rattle.rule_values.proofs.items.from_letters.Given as goal

abbrev pub invariant-loop-here : goal.invariant-loop-here
invariant-loop-here g l =
    (l.here ≡ l.rest)
    × (lettered (g.B.Bytes.left l.rest) ≡ lettered (g.B.Bytes.left l.fn.text))

abbrev pub decreases-loop-here : goal.decreases-loop-here
decreases-loop-here g l = length (g.B.Bytes.left l.rest)
