-- The queue table: heads, which are the next lines of the series, at most one of each; the soonest line of a series after a mark;
-- and what a draw takes.
use Rattle.std.specs.Prelude.{◌≡◌, ℕ, ◌<◌, ◌≤◌, Bool, true, ◌≢◌, List, [], ◌∷◌, length, take, Some, None, Option, nat_eq, not, map}
use Rattle.std.specs.List.{All, Contains, count_by}
use Rattle.calendar.specs.Sheets.{Almanac}
use Rattle.days.specs.Numbers.{in_range}
use Rattle.sources.specs.Sets.{DayOf}
use Rattle.queue.specs.Heap.{Heaped}
use Rattle.series.specs.Record.{series_days}
use Rattle.series.specs.declared.record.Series.{Series}
use Rattle.owed.specs.declared.line.Line.{Line}
use Rattle.owed.specs.Lines.{line, precedes, Before}
use Rattle.owed.specs.Owed.{GivenBy, owed}

-- the days of each series, over a shelf
abbrev pub sets_of : List Almanac → List Series → List (ℕ → Bool)
sets_of shelf series = map (series_days shelf) series

-- ── the soonest line of a series ──

-- l is the first line of the set's series, which has this number, that is after the mark and not after the day `last`
pub record SoonestLine (set : ℕ → Bool) (number : ℕ) (mark : Line) (last : ℕ) (l : Line) : Type 0 where
  pub of_series : l.series ≡ number
  pub after : Before mark l
  pub closes : l.day ≤ last
  pub day : DayOf set l.day
  pub least : (d : ℕ) → DayOf set d → Before mark (line d number) → l.day ≤ d

-- that line, or none exactly if there is none
abbrev pub Soonest : (ℕ → Bool) → ℕ → Line → ℕ → Option Line → Type 0
Soonest set number mark last (Some l) = SoonestLine set number mark last l
Soonest set number mark last None = (d : ℕ) → DayOf set d → Before mark (line d number) → d ≤ last → ⊥

-- ── the heads ──

-- how many heads are of the series of a number
unfoldable pub heads_of : ℕ → List Line → ℕ
heads_of number heads = count_by (λ head. nat_eq head.series number) heads

-- how many heads are not after the mark
unfoldable pub behind : Line → List Line → ℕ
behind mark heads = count_by (λ head. not (precedes mark head)) heads

-- a head of the line's series that is not after the line
abbrev pub Ahead : Line → List Line → Type 0
Ahead l heads = (head : Line) × Contains heads head × (head.series ≡ l.series) × (head.day ≤ l.day)

-- The heads stand in the first places of the queue, in heap order. Each is a line of the window, no series has two, and each
-- series that has a line after the mark has a head not after it. One series, that of the number `but`, may have none, and has
-- none then; 0 numbers no series.
pub record Heads (first last : ℕ) (sets : List (ℕ → Bool)) (mark : Line) (queue : List Line) (queued but : ℕ) : Type 0 where
  pub ranged : (in_range first ≡ true) × (in_range last ≡ true)
  pub marked : first ≤ mark.day
  pub within : queued ≤ length queue
  pub heaped : Heaped precedes queue queued
  pub lines : All (GivenBy first last sets) (take queued queue)
  pub single : (number : ℕ) → heads_of number (take queued queue) ≤ 1
  pub gone : 0 < but → heads_of but (take queued queue) ≡ 0
  pub covers : (l : Line) → GivenBy first last sets l → Before mark l → l.series ≢ but → Ahead l (take queued queue)

-- ── a draw ──

-- the mark after a draw: on the line that was drawn, or where it was
abbrev pub mark_after : Line → Option Line → Line
mark_after mark (Some l) = l
mark_after mark None = mark

-- the first owed line is drawn, and the others are owed then; or none, and no line is owed
abbrev pub FirstDrawn : ℕ → ℕ → List (ℕ → Bool) → Line → Option Line → Type 0
FirstDrawn first last sets mark (Some l) = owed first last sets mark ≡ l ∷ owed first last sets l
FirstDrawn first last sets mark None = owed first last sets mark ≡ []
