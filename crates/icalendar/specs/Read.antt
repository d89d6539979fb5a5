-- What is read of a whole file: the first question that it fails, or what becomes of each of its events.
use Rattle.std.specs.Prelude.{◌≡◌, ℕ, List, [], ◌∷◌, length, Ok, Err, vec_items, Result, Vec}
use Rattle.calendar.specs.Sheets.{Almanac}
use Rattle.series.specs.declared.record.Series.{Series}
use Rattle.series.specs.Record.{Accepted}
use Rattle.icalendar.specs.declared.fault.Fault.{Fault}
use Rattle.icalendar.specs.declared.read.ReadError.{ReadError}
use Rattle.icalendar.specs.declared.read.ReadError.TheVariants.{Refused, OutOfMemory}
use Rattle.icalendar.specs.Files.{file_read, events_of}
use Rattle.icalendar.specs.Verdicts.{Says, verdicts}

-- each says what the verdict at its place is, and there are as many
abbrev pub AllSay : List Almanac → List (Result Series Fault) → List (Result Accepted Fault) → Type 0
AllSay shelf [] [] = Unit {0}
AllSay shelf [] (y ∷ ys) = ⊥
AllSay shelf (x ∷ xs) [] = ⊥
AllSay shelf (x ∷ xs) (y ∷ ys) = Says shelf x y × AllSay shelf xs ys

-- the events of a file that fails no question, or the first that it fails; memory runs out only for a file that fails none
abbrev pub Reads : {Z : Type 0} → List Almanac → ℕ → List ℕ → Result (Vec (Result Series Fault) Z) ReadError → Type 0
Reads shelf number bs (Ok v) = (file_read bs ≡ Ok (length (events_of bs))) × AllSay shelf (vec_items v) (verdicts shelf number bs)
Reads shelf number bs (Err (Refused q)) = file_read bs ≡ Err q
Reads shelf number bs (Err (OutOfMemory e)) = file_read bs ≡ Ok (length (events_of bs))
