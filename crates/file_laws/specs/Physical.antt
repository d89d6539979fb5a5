-- A file as its physical lines: each is followed by CR LF, and has no CR or LF of its own.
use Rattle.std.specs.Prelude.{◌≡◌, ℕ, ◌<◌, true, ◌≢◌, List, [], ◌∷◌, ◌++◌, length}
use Rattle.std.specs.List.{AllByRecursion}
use Rattle.lines.specs.Lines.{physical_lines}
use Rattle.lines.specs.Ended.{well_ended}

abbrev pub cr : ℕ
cr = 13

abbrev pub lf : ℕ
lf = 10

abbrev pub Unbroken : List ℕ → Type 0
Unbroken l = AllByRecursion (λ b. (b ≢ cr) × (b ≢ lf)) l

abbrev pub written : List (List ℕ) → List ℕ
written [] = []
written (l ∷ ls) = l ++ (cr ∷ lf ∷ written ls)

-- a file ends its lines well exactly where it is one such line or more, and they are then its physical lines
pub record LineEnds : Type 0 where
  pub only : (bs : List ℕ) → well_ended bs ≡ true → (ls : List (List ℕ)) × (0 < length ls) × AllByRecursion Unbroken ls × (bs ≡ written ls)
  pub stands : (ls : List (List ℕ)) → 0 < length ls → AllByRecursion Unbroken ls → well_ended (written ls) ≡ true
  pub lines : (ls : List (List ℕ)) → AllByRecursion Unbroken ls → physical_lines (written ls) ≡ ls
