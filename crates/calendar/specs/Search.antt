-- How a search for a date judges a guessed year: where a day lies, as seen from the year's sheet.
use Rattle.std.specs.Prelude.{◌≡◌, ℕ, ◌+◌, ◌-◌, ◌/◌, ◌<◌, ◌≤◌, max}
use Rattle.days.specs.Months.{Falls}
use Rattle.calendar.specs.declared.search.Sight.{Sight}
use Rattle.calendar.specs.declared.search.Sight.TheVariants.{Here, Earlier, Later}
use Rattle.calendar.specs.declared.sheet.Sheet.{Sheet}
use Rattle.calendar.specs.Sheets.{lengths_of, days_of}

-- no year has more than 385 days, so so many days away are at least that many years away
abbrev pub Seen : Sheet → ℕ → Sight → Type 0
Seen s n (Here p d) = (s.first ≤ n) × Falls (lengths_of s) (n - s.first) p d
Seen s n (Earlier k) = (n < s.first) × (k ≡ (s.first - n - 1) / 385 + 1)
Seen s n (Later k) = (s.first ≤ n) × (days_of s ≤ n - s.first) × (k ≡ max ((n - s.first) / 385) 1)
