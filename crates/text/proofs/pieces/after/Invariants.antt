-- The check finds neither: what the walk keeps of the text, and that each turn leaves fewer bytes.
use Rattle.std.proofs.Common.{◌≡◌, length}
use Rattle.text.specs.Pieces.{has, past}
use Rattle.text.proofs.pieces.after.Given as goal

abbrev pub invariant-loop-rest : goal.invariant-loop-rest
invariant-loop-rest g l =
    (has l.mark (g.B.Bytes.left l.rest) ≡ has l.mark (g.B.Bytes.left l.fn.bytes))
    × (past l.mark (g.B.Bytes.left l.rest) ≡ past l.mark (g.B.Bytes.left l.fn.bytes))

abbrev pub decreases-loop-rest : goal.decreases-loop-rest
decreases-loop-rest g l = length (g.B.Bytes.left l.rest)
