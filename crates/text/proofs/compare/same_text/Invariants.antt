-- The check does not find it: what is still to be compared answers for the whole.
use Rattle.std.proofs.Common.{◌≡◌}
use Rattle.text.specs.Letters.{same}
use Rattle.text.proofs.compare.same_text.Given as goal

abbrev pub invariant-loop-x : goal.invariant-loop-x
invariant-loop-x g l = same l.x-iterator (g.B.Bytes.left l.other) ≡ same (g.A.Bytes.left l.fn.one) (g.B.Bytes.left l.initial.other)
