-- Lines and their order: by day, and on one day by the number of the series. A mark is a line too.
use Rattle.std.specs.Prelude.{◌≡◌, ℕ, ◌<◌, ◌≤◌, Bool, if◌then◌else◌, nat_eq, nat_lt}
use Rattle.owed.specs.declared.line.Line.{Line}

-- the line of a day and a number
abbrev pub line : ℕ → ℕ → Line
line day series = record { day = day; series = series }

-- whether l is before m
abbrev pub precedes : Line → Line → Bool
precedes l m = if nat_eq l.day m.day then nat_lt l.series m.series else nat_lt l.day m.day

-- l is before m
abbrev pub Before : Line → Line → Type 0
Before l m = (l.day ≤ m.day) × (l.day ≡ m.day → l.series < m.series)

-- l is before m or the same line
abbrev pub NotAfter : Line → Line → Type 0
NotAfter l m = (l.day ≤ m.day) × (l.day ≡ m.day → l.series ≤ m.series)
