-- Digits that are read one after another. The check finds no power of ten as a bound.
use Rattle.std.proofs.Common.{ℕ, ◌^◌, ◌<◌, cond, List, Some, None, Option, arith, lit<}
use native.Mathlib.Nat.{pow-le-pow_right}
use Rattle.days.specs.Digits.{digit, written_after}
use Rattle.rules.specs.Parts.{each_of}

-- the number that digits write after those of n
abbrev pub rest_read : ℕ → List ℕ → Option ℕ
rest_read n bs = cond (each_of digit bs) (Some (written_after n bs)) None

pub below_thousand : (k n : ℕ) → k < 4 → n < 10 ^ k → n < 1000
below_thousand k n h l = let p = pow-le-pow_right {n = 10} (lit< tt) {i = k} {j = 3} (omega arith) in omega arith
