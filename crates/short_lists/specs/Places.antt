-- The places of an array that holds a list: the list, and blanks after it.
use Rattle.std.specs.Prelude.{◌≡◌, ℕ, ◌-◌, ◌≤◌, List, ◌++◌, length, take, replicate}
use Rattle.std.proofs.Common.{arith, length-take-le}

-- the array of n places begins with the list, and its other places are blank
abbrev pub places : {X : Type 0} → ℕ → X → List X → List X
places n blank xs = xs ++ replicate (n - length xs) blank

-- `at` is an array of n places of which the first `len` are in use and the others are blank
pub record Filled {X : Type 0} (n : ℕ) (blank : X) (at : List X) (len : ℕ) : Type 0 where
  pub within : len ≤ n
  pub size : length at ≡ n
  pub blanks : places n blank (take len at) ≡ at

pub used : {X : Type 0} {n : ℕ} {blank : X} {at : List X} {len : ℕ} → Filled n blank at len → length (take len at) ≡ len
used {at = at} {len = len} h = length-take-le len at (omega (arith, h.within, h.size))
