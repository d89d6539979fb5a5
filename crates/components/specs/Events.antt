-- The events of a file: each VEVENT directly in the outer component, with its own lines.
use Rattle.std.specs.Prelude.{ℕ, ◌+◌, ◌-◌, Bool, cond, ◌&&◌, List, [], ◌∷◌, codes, ◌==◌}
use Rattle.lines.specs.Lines.{Line}
use Rattle.lines.specs.Property.{is_named}
use Rattle.text.specs.Letters.{same}
use Rattle.lines.specs.declared.cursor.Cursor.{Cursor}
use Rattle.lines.specs.View.{rest, line_of}
use Rattle.components.specs.Nest.{Begin, End, Other, kind}

-- the lines up to the END of the component at hand, those of d components open inside it left out
abbrev pub own : ℕ → List Line → List Line
own d [] = []
own d (l ∷ ls) =
    elim (kind l.text) [
      | Begin x ↦ own (d + 1) ls
      | End x ↦ cond (d == 0) [] (own (d - 1) ls)
      | Other ↦ cond (d == 0) (l ∷ own d ls) (own d ls)
    ]

pub record Event : Type 0 where
  pub place : ℕ
  pub lines : List Line

abbrev pub is_event : ℕ → List ℕ → Bool
is_event d x = d == 1 && same (codes "VEVENT") x

-- the events of lines inside d components
abbrev pub events : ℕ → List Line → List Event
events d [] = []
events d (l ∷ ls) =
    elim (kind l.text) [
      | Begin x ↦ cond (is_event d x) (record { place = l.place; lines = own 0 ls } ∷ events (d + 1) ls) (events (d + 1) ls)
      | End x ↦ events (d - 1) ls
      | Other ↦ events d ls
    ]

abbrev pub events_in : List Line → List Event
events_in ls = events 0 ls

-- the lines named n
abbrev pub picked : List ℕ → List Line → List Line
picked n [] = []
picked n (l ∷ ls) = cond (is_named n l.text) (l ∷ picked n ls) (picked n ls)

-- the event whose BEGIN a cursor stands at
abbrev pub event_at : Cursor → Event
event_at c = record { place = (line_of c).place; lines = own 0 (rest c).later }
