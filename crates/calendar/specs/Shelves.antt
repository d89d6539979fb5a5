-- Shelves: calendars side by side, at most eight. Places on a shelf count from 0.
use Rattle.std.specs.Prelude.{◌≡◌, ℕ, ◌-◌, ◌<◌, false, cond, List, [], ◌∷◌, map, length, Some, None, Option, ◌==◌}
use Rattle.std.specs.Char.{to_ascii_lowercase}
use Rattle.calendar.specs.Sheets.{Almanac, empty_sheet}
use Rattle.calendar.specs.Laws.{Lawful}

-- what stands at a place past a shelf's end: it has no name and answers no year
abbrev pub nothing : Almanac
nothing = record { name = []; top = 0; leaps = λ _. false; lowest = 1; highest = 0; sheet = λ _. empty_sheet }

-- the almanac at the place i
abbrev pub almanac_at : List Almanac → ℕ → Almanac
almanac_at [] i = nothing
almanac_at (a ∷ more) i = cond (i == 0) a (almanac_at more (i - 1))

-- the calendar at the place i bears the name, letter case aside
pub record Bears (shelf : List Almanac) (name : List ℕ) (i : ℕ) : Type 0 where
  pub within : i < length shelf
  pub same : map to_ascii_lowercase (almanac_at shelf i).name ≡ map to_ascii_lowercase name

pub record FirstBearing (shelf : List Almanac) (name : List ℕ) (i : ℕ) : Type 0 where
  pub bears : Bears shelf name i
  pub earlier : (k : ℕ) → k < i → Bears shelf name k → ⊥

-- the answer is the place of the first calendar that bears the name, or none where none does
abbrev pub Found : List Almanac → List ℕ → Option ℕ → Type 0
Found shelf name (Some i) = FirstBearing shelf name i
Found shelf name None = (k : ℕ) → Bears shelf name k → ⊥

abbrev pub AllLawful : List Almanac → Type 0
AllLawful [] = Unit {0}
AllLawful (a ∷ more) = Lawful a × AllLawful more
