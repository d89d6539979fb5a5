-- A file's components: what each holds between its BEGIN and its END, and which of them are events.
use Rattle.std.specs.Prelude.{◌≡◌, ℕ, zero, suc, true, false, cond, List, [], ◌∷◌, ◌++◌, codes}
use Rattle.text.specs.Letters.{same}
use Rattle.lines.specs.Lines.{Line}
use Rattle.lines.specs.Property.{is_named, value}
use Rattle.components.specs.Nest.{one_calendar}
use Rattle.components.specs.Events.{Event, events_in}

-- what a component holds, in file order: properties of its own, a line each, and inner components, each a BEGIN, what it holds, and an END
pub data Body : Type 0 where
  Done : Body
  Property : Line → Body → Body
  Component : Line → Body → Line → Body → Body

abbrev pub held : Body → List Line
held Done = []
held (Property l b) = l ∷ held b
held (Component begin inside end b) = begin ∷ (held inside ++ (end ∷ held b))

-- an END closes a BEGIN that has the same value, letter case ignored
pub record Closes (begin end : Line) : Type 0 where
  pub begins : is_named (codes "BEGIN") begin.text ≡ true
  pub ends : is_named (codes "END") end.text ≡ true
  pub fits : same (value end.text) (value begin.text) ≡ true

-- a body whose properties are neither BEGIN nor END, and whose components nest, at most n levels deep
abbrev pub Nests : ℕ → Body → Type 0
Nests n Done = Unit {0}
Nests n (Property l b) = (is_named (codes "BEGIN") l.text ≡ false) × (is_named (codes "END") l.text ≡ false) × Nests n b
Nests zero (Component begin inside end b) = ⊥
Nests (suc n) (Component begin inside end b) = Closes begin end × Nests n inside × Nests (suc n) b

-- one component around all lines, called VCALENDAR, letter case ignored; with it there are at most eight levels
pub record Calendar : Type 0 where
  pub begin : Line
  pub body : Body
  pub end : Line

abbrev pub Sound : Calendar → Type 0
Sound c = Closes c.begin c.end × (same (codes "VCALENDAR") (value c.begin.text) ≡ true) × Nests 7 c.body

abbrev pub lines : Calendar → List Line
lines c = c.begin ∷ (held c.body ++ (c.end ∷ []))

-- the lines of a body that are not of an inner component
abbrev pub own_lines : Body → List Line
own_lines Done = []
own_lines (Property l b) = l ∷ own_lines b
own_lines (Component begin inside end b) = own_lines b

-- the components of a body that are called VEVENT, each with its own lines
abbrev pub events_of : Body → List Event
events_of Done = []
events_of (Property l b) = events_of b
events_of (Component begin inside end b) =
    cond (same (codes "VEVENT") (value begin.text)) (record { place = begin.place; lines = own_lines inside } ∷ events_of b) (events_of b)

-- lines are one calendar exactly where they are those of such a component, and the events found are then those directly in it
pub record Components : Type 0 where
  pub only : (ls : List Line) → one_calendar ls ≡ true → (c : Calendar) × Sound c × (ls ≡ lines c)
  pub stands : (c : Calendar) → Sound c → one_calendar (lines c) ≡ true
  pub events : (c : Calendar) → Sound c → events_in (lines c) ≡ events_of c.body
