-- The check does not find these: a text with a separator is cut there, and its first part comes off.
use Rattle.std.proofs.Common.{arith}
use Rattle.std.proofs.lemmas.Bool.Decides.{nat_tests}
use Rattle.text.proofs.Cutting.{cut}
use Rattle.rrule.proofs.named.none_twice.Goals as goal

pub returns-then-some_named : goal.returns-then-some_named
returns-then-some_named g c = let e = cut 59 (g.B.Bytes.left c.loop-others.rest) in let h = c.in-Some.ensures in grind (arith, nat_tests)

pub loop-others-smaller : goal.loop-others-smaller
loop-others-smaller g c = let e = cut 59 (g.B.Bytes.left c.loop-others.rest) in let h = c.in-Some.ensures in grind (arith, nat_tests)

pub loop-others-preserved : goal.loop-others-preserved
loop-others-preserved g c = let e = cut 59 (g.B.Bytes.left c.loop-others.rest) in let h = c.in-Some.ensures in grind (arith, nat_tests)

pub returns : goal.returns
returns g c = let e = cut 59 (g.B.Bytes.left c.loop-others.rest) in grind (arith, nat_tests)
