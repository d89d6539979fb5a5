-- What a file's events make of the free places of a plan's tables: series records, one after another, and fault entries.
use Rattle.std.specs.Prelude.{◌≡◌, ℕ, ◌+◌, List, [], ◌∷◌, ◌++◌, length, drop, take}
use Rattle.calendar.specs.Sheets.{Almanac}
use Rattle.series.specs.declared.record.Series.{Series}
use Rattle.series.specs.Record.{Accepted, Keeps}
use Rattle.icalendar.specs.declared.fault.Fault.{Fault}
use Rattle.report.specs.declared.entries.FaultEntry.{FaultEntry}
use Rattle.runs.specs.declared.calls.Made.{Made}

-- each record keeps the event at its place, and there are as many
abbrev pub AllKeep : List Almanac → List Series → List Accepted → Type 0
AllKeep shelf [] [] = Unit {0}
AllKeep shelf (s ∷ ss) (e ∷ es) = Keeps shelf s e × AllKeep shelf ss es
AllKeep shelf ss es = ⊥

-- the first places hold records that keep these events, and the places past them what they held
abbrev pub RecordsStored : List Almanac → List Accepted → List Series → List Series → Type 0
RecordsStored shelf events old new = (records : List Series) × AllKeep shelf records events × (new ≡ records ++ drop (length events) old)

-- the first places hold these, and the places past them what they held
abbrev pub stored : {X : Type 0} → List X → List X → List X
stored xs old = xs ++ drop (length xs) old

-- the entry of an event of a file, by their numbers
abbrev pub entry : ℕ → ℕ → Fault → FaultEntry
entry file event fault = record { file = file; event = event; fault = fault }

-- with one more of each
abbrev pub one_series : Made → Made
one_series made = record made { series = made.series + 1 }

abbrev pub one_entry : Made → Made
one_entry made = record made { faults = made.faults + 1 }

-- ── past those in use ──

-- these stand from the place k on, and all other places hold what they held
abbrev pub added : {X : Type 0} → ℕ → List X → List X → List X
added k xs old = take k old ++ (xs ++ drop (k + length xs) old)

-- records that keep these events stand from the place k on, and all other places hold what they held
abbrev pub RecordsAdded : List Almanac → ℕ → List Accepted → List Series → List Series → Type 0
RecordsAdded shelf k events old new = (records : List Series) × AllKeep shelf records events × (new ≡ added k records old)
