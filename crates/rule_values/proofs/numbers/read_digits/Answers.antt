-- The check does not find this: three digits write less than 1000, so that one more fits.
use Rattle.std.proofs.Common.{arith}
use Rattle.rule_values.proofs.Counted.{below_thousand}
use Rattle.rule_values.proofs.numbers.read_digits.Goals as goal

pub overflow_add-n : goal.overflow_add-n
overflow_add-n g c =
    let b = below_thousand c.loop-b.b-index c.loop-b.n (omega (arith, c.loop-b-test.true, c.loop-b.invariant.1)) c.loop-b.invariant.0 in
    let d = c.if-not-is_ascii_digit.ensures.bound in omega arith
