-- The check finds no invariant: the digits to come, read after those so far, give the whole number.
use Rattle.std.proofs.Common.{◌≡◌, ◌^◌, ◌<◌, ◌≤◌, length, drop}
use Rattle.rule_values.specs.Numbers.{number_read}
use Rattle.rule_values.proofs.Counted.{rest_read}
use Rattle.rule_values.proofs.numbers.read_digits.Given as goal

abbrev pub invariant-loop-b : goal.invariant-loop-b
invariant-loop-b g l =
    (l.n < 10 ^ l.b-index) × (length l.b-items ≤ 4)
    × (rest_read l.n (drop l.b-index l.b-items) ≡ number_read (g.B.Bytes.left l.fn.text))
