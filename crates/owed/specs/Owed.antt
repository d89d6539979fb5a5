-- The lines of a window of days, and those that are owed: the ones after a mark. There is one set of days for each series,
-- in a list, and the series are numbered from 1.
use Rattle.std.specs.Prelude.{◌≡◌, ℕ, zero, suc, ◌+◌, ◌-◌, ◌≤◌, Bool, true, false, if◌then◌else◌, List, [], ◌∷◌, ◌++◌, length, slice_index_or}
use Rattle.std.specs.List.{AllPairs, All, Contains, filter}
use Rattle.owed.specs.declared.line.Line.{Line}
use Rattle.owed.specs.Lines.{line, precedes, Before}

-- whether the series of a number, from 1 on, gives a day; past the last series no day is given
abbrev pub series_gives : List (ℕ → Bool) → ℕ → ℕ → Bool
series_gives sets number = slice_index_or sets (number - 1) (λ day. false)

-- a line of the window from `first` to `last`: a day in it that the series of that number gives
pub record GivenBy (first last : ℕ) (sets : List (ℕ → Bool)) (l : Line) : Type 0 where
  pub from_one : 1 ≤ l.series
  pub loaded : l.series ≤ length sets
  pub opens : first ≤ l.day
  pub closes : l.day ≤ last
  pub gives : series_gives sets l.series l.day ≡ true

-- the lines of the day d, by number, where the sets are those of the series from the number n on
abbrev pub on_day : ℕ → ℕ → List (ℕ → Bool) → List Line
on_day d n [] = []
on_day d n (set ∷ sets) = if set d then line d n ∷ on_day d (n + 1) sets else on_day d (n + 1) sets

-- the lines of k days from the day d on, one day after another
abbrev pub on_days : ℕ → ℕ → List (ℕ → Bool) → List Line
on_days d zero sets = []
on_days d (suc k) sets = on_day d 1 sets ++ on_days (d + 1) k sets

-- the lines of the window from `first` to `last`, both included
unfoldable pub all_lines : ℕ → ℕ → List (ℕ → Bool) → List Line
all_lines first last sets = on_days first (last + 1 - first) sets

-- the lines of the window that are after the mark
unfoldable pub owed : ℕ → ℕ → List (ℕ → Bool) → Line → List Line
owed first last sets mark = filter (precedes mark) (all_lines first last sets)

-- each line is before all that follow it
abbrev pub Rising : List Line → Type 0
Rising xs = AllPairs Before xs

-- xs is the rising list of just the lines of the window that are after the mark
pub record Lists (first last : ℕ) (sets : List (ℕ → Bool)) (mark : Line) (xs : List Line) : Type 0 where
  pub rising : Rising xs
  pub only : All (λ l. GivenBy first last sets l × Before mark l) xs
  pub every : (l : Line) → GivenBy first last sets l → Before mark l → Contains xs l

-- so is the list of owed lines, whatever days the series give
abbrev pub OwedLists : Type 0
OwedLists = (first last : ℕ) (sets : List (ℕ → Bool)) (mark : Line) → Lists first last sets mark (owed first last sets mark)
