-- The check does not find how large the sum of so many bytes can be.
use Rattle.std.proofs.Common.{◌≤◌, rules, arith}
use Rattle.std.proofs.lemmas.List.Elements.{All-from_get_or}
use Rattle.std.proofs.lemmas.List.Sums.{sum_by-le}
use Rattle.days.proofs.months.days_of.Goals as goal

pub returns-clause-most : goal.returns-clause-most
returns-clause-most c =
    let ls = c.args.lengths.now in
    let m = sum_by-le (λ n. n) 255 ls (All-from_get_or (λ n. n ≤ 255) ls 0 (λ i h. omega (arith, c.type_inv.lengths i))) in
    search rules
