-- A file's logical lines: its physical lines in groups, each a line and the lines that continue it.
use Rattle.std.specs.Prelude.{◌≡◌, ℕ, ◌+◌, Bool, true, false, List, [], ◌∷◌, ◌++◌, length, drop}
use Rattle.std.specs.List.{AllByRecursion}
use Rattle.lines.specs.Lines.{Line, blank, logical_lines}
use Rattle.file_laws.specs.Physical.{Unbroken, written}

pub record Group : Type 0 where
  pub first : List ℕ
  pub others : List (List ℕ)

-- a line that continues the one before begins with a blank or a tab
abbrev pub continues : List ℕ → Bool
continues [] = false
continues (b ∷ l) = blank b

-- in each group the others continue it, and no group but the first of the file begins with a line that continues
abbrev pub Grouped : List Group → Type 0
Grouped gs = AllByRecursion (λ g. AllByRecursion (λ l. continues l ≡ true) g.others) gs × AllByRecursion (λ g. continues g.first ≡ false) (drop 1 gs)

abbrev pub physical : Group → List (List ℕ)
physical g = g.first ∷ g.others

abbrev pub all_physical : List Group → List (List ℕ)
all_physical [] = []
all_physical (g ∷ gs) = physical g ++ all_physical gs

-- the logical line of a group: the first line, and each of the others less its first byte
abbrev pub unfolded : List (List ℕ) → List ℕ
unfolded [] = []
unfolded (l ∷ ls) = drop 1 l ++ unfolded ls

abbrev pub logical : Group → List ℕ
logical g = g.first ++ unfolded g.others

-- the logical lines of groups after n physical lines, each at the place where its group begins
abbrev pub all_logical : ℕ → List Group → List Line
all_logical n [] = []
all_logical n (g ∷ gs) = record { place = n + 1; text = logical g } ∷ all_logical (n + length (physical g)) gs

-- all physical lines fall into such groups, and a file's logical lines are those of its groups
pub record Unfolding : Type 0 where
  pub groups : (ls : List (List ℕ)) → (gs : List Group) × Grouped gs × (ls ≡ all_physical gs)
  pub lines : (gs : List Group) → Grouped gs → AllByRecursion Unbroken (all_physical gs) → logical_lines (written (all_physical gs)) ≡ all_logical 0 gs
