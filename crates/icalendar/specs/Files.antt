-- The questions on a file, in their order, and its events.
use Rattle.std.specs.Prelude.{ℕ, Bool, cond, List, [], ◌∷◌, length, Some, None, Ok, Err, Option, Result, nat_le}
use Rattle.lines.specs.Lines.{logical_lines}
use Rattle.lines.specs.Ended.{well_ended}
use Rattle.lines.specs.Machine.{all_well}
use Rattle.components.specs.Nest.{one_calendar}
use Rattle.components.specs.Events.{Event, events_in}
use Rattle.refusals.specs.declared.asked.FileQuestion.{FileQuestion}
use Rattle.refusals.specs.declared.asked.FileQuestion.TheVariants.{Size, LineEnds, LineForms, Nesting}

-- a question with what it asks of a file's bytes
pub record Asked : Type 0 where
  pub question : FileQuestion
  pub passes : List ℕ → Bool

abbrev pub asked : List Asked
asked =
    record { question = Size; passes = λ bs. nat_le (length bs) 60000 } ∷
    record { question = LineEnds; passes = well_ended } ∷
    record { question = LineForms; passes = λ bs. all_well (logical_lines bs) } ∷
    record { question = Nesting; passes = λ bs. one_calendar (logical_lines bs) } ∷ []

-- the first question that a file fails
abbrev pub first_failed : List Asked → List ℕ → Option FileQuestion
first_failed [] bs = None
first_failed (q ∷ qs) bs = cond (q.passes bs) (first_failed qs bs) (Some q.question)

-- the events of a file, in their order
abbrev pub events_of : List ℕ → List Event
events_of bs = events_in (logical_lines bs)

-- how many events a file has, or the first question that it fails
abbrev pub unless_failed : Option FileQuestion → ℕ → Result ℕ FileQuestion
unless_failed (Some q) n = Err q
unless_failed None n = Ok n

abbrev pub file_read : List ℕ → Result ℕ FileQuestion
file_read bs = unless_failed (first_failed asked bs) (length (events_of bs))
