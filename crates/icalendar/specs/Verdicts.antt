-- What becomes of an event: all that is kept of it, or the first question that it fails, with its place.
use Rattle.std.specs.Prelude.{◌≡◌, ℕ, suc, Bool, true, false, cond, ◌&&◌, List, [], ◌∷◌, map, take, Some, None, Ok, Err, codes, Option, Result, nat_le}
use Rattle.text.specs.Letters.{same}
use Rattle.lines.specs.Lines.{Line}
use Rattle.lines.specs.Property.{value}
use Rattle.components.specs.Events.{Event, picked}
use Rattle.calendar.specs.declared.sheet.MonthCode.{MonthCode}
use Rattle.calendar.specs.Sheets.{Almanac}
use Rattle.calendar.specs.Shelves.{almanac_at}
use Rattle.sources.specs.declared.events.Limit.{Limit}
use Rattle.sources.specs.declared.events.Limit.TheVariants.{Endless, Until, Count}
use Rattle.rules.specs.Parts.{each_of}
use Rattle.rules.specs.Making.{parts_give}
use Rattle.rule_values.specs.declared.values.ScaleName.{ScaleName}
use Rattle.rrule.specs.Rule.{Said}
use Rattle.rrule.specs.Questions.{rule_read}
use Rattle.series.specs.declared.record.Recurrence.{Recurrence}
use Rattle.vevent.specs.declared.questions.EventFault.{EventFault}
use Rattle.vevent.specs.Questions.{asked, first_failed}
use Rattle.vevent.specs.Kept.{start_of, rdates, exdates, title_of}
use Rattle.series.specs.declared.record.Series.{Series}
use Rattle.series.specs.Record.{Ruled, Accepted, Keeps, ruled_in, LastRight}
use Rattle.refusals.specs.declared.asked.CalendarQuestion.{CalendarQuestion}
use Rattle.refusals.specs.declared.asked.CalendarQuestion.TheVariants.{OnShelf, KnownMonths, StartIsFirst}
use Rattle.refusals.specs.declared.asked.Failed.{Failed}
use Rattle.refusals.specs.declared.asked.Failed.TheVariants.{Event as EventFailed, Rule as RuleFailed, Calendar as CalendarFailed}
use Rattle.icalendar.specs.declared.fault.Fault.{Fault}
use Rattle.icalendar.specs.Files.{events_of}

-- ── the calendar of a rule ──

-- the name that a rule asks for: RSCALE's, or gregorian without RSCALE
abbrev pub name_asked : Option ScaleName → List ℕ
name_asked (Some n) = n.name
name_asked None = codes "gregorian"

abbrev pub written : Option ScaleName → Bool
written (Some n) = true
written None = false

-- the place of the first calendar that bears a name
abbrev pub further : Option ℕ → Option ℕ
further (Some i) = Some (suc i)
further None = None

abbrev pub place_named : List Almanac → List ℕ → Option ℕ
place_named [] name = None
place_named (a ∷ more) name = cond (same a.name name) (Some 0) (further (place_named more name))

-- a plain code is at most the highest plain number, a leap code is one that the calendar states
abbrev pub code_known : Almanac → MonthCode → Bool
code_known a c = cond c.leap (a.leaps c.number) (nat_le c.number a.top)

-- a day that UNTIL, if there is one, is not before
abbrev pub within_until : Limit → ℕ → Bool
within_until Endless d = true
within_until (Until last) d = nat_le d last
within_until (Count n) d = true

-- DTSTART is the first day that the rule gives, UNTIL applied: the rule gives no day before it
abbrev pub starts_first : Almanac → Said → ℕ → Bool
starts_first a r start = parts_give a r.parts start start && within_until r.limit start

abbrev pub ruled : Said → ℕ → Ruled
ruled r place = record { parts = r.parts; limit = r.limit; place = place; scaled = written r.scale }

-- the questions on the calendar at a place
abbrev pub over : Almanac → Said → ℕ → ℕ → Result Ruled CalendarQuestion
over a r place start =
    cond (each_of (code_known a) r.parts.months)
    (cond (starts_first a r start) (Ok (ruled r place)) (Err StartIsFirst))
    (Err KnownMonths)

abbrev pub at_place : List Almanac → Said → ℕ → Option ℕ → Result Ruled CalendarQuestion
at_place shelf r start None = Err OnShelf
at_place shelf r start (Some i) = over (almanac_at shelf i) r i start

abbrev pub on_calendar : List Almanac → Said → ℕ → Result Ruled CalendarQuestion
on_calendar shelf r start = at_place shelf r start (place_named shelf (name_asked r.scale))

-- ── the rule of an event ──

abbrev pub failed_at : ℕ → Failed → Fault
failed_at p f = record { place = p; failed = f }

abbrev pub or_calendar_fault : ℕ → Result Ruled CalendarQuestion → Result Ruled Fault
or_calendar_fault p (Ok u) = Ok u
or_calendar_fault p (Err q) = Err (failed_at p (CalendarFailed q))

-- what the rule on a line of a place is, for an event that starts on a day
abbrev pub rule_on : List Almanac → ℕ → Line → Result Ruled Fault
rule_on shelf start l =
    elim (rule_read (value l.text)) [
      | Ok r ↦ or_calendar_fault l.place (on_calendar shelf r start)
      | Err f ↦ Err (failed_at l.place (RuleFailed f))
    ]

-- the first RRULE's, if there is one
abbrev pub some_rule : Result Ruled Fault → Result (Option Ruled) Fault
some_rule (Ok u) = Ok (Some u)
some_rule (Err f) = Err f

abbrev pub rule_among : List Almanac → ℕ → List Line → Result (Option Ruled) Fault
rule_among shelf start [] = Ok None
rule_among shelf start (l ∷ ls) = some_rule (rule_on shelf start l)

-- ── the event ──

abbrev pub kept : ℕ → Event → ℕ → Option Ruled → Accepted
kept file e start u = record { file = file; ruled = u; start = start; rdates = take 16 (rdates e); exdates = take 32 (exdates e); title = title_of e }

abbrev pub or_fault : ℕ → Event → ℕ → Result (Option Ruled) Fault → Result Accepted Fault
or_fault file e start (Ok u) = Ok (kept file e start u)
or_fault file e start (Err f) = Err f

-- an event that passes the questions on its own lines, which starts on a day
abbrev pub started : List Almanac → ℕ → Event → Option ℕ → Result Accepted Fault
started shelf file e (Some start) = or_fault file e start (rule_among shelf start (picked (codes "RRULE") e.lines))
started shelf file e None = or_fault file e 0 (Ok None)

-- a question that an event's own lines fail
abbrev pub of_event : EventFault → Fault
of_event f = failed_at f.place (EventFailed f.question)

-- what becomes of an event of the file of this number
abbrev pub verdict : List Almanac → ℕ → Event → Result Accepted Fault
verdict shelf file e =
    elim (first_failed asked e) [
      | Some f ↦ Err (of_event f)
      | None ↦ started shelf file e (start_of e)
    ]

-- what becomes of the events of a file, in their order
abbrev pub verdicts : List Almanac → ℕ → List ℕ → List (Result Accepted Fault)
verdicts shelf file bs = map (verdict shelf file) (events_of bs)

-- a series record or a fault says what the verdict is
abbrev pub Says : List Almanac → Result Series Fault → Result Accepted Fault → Type 0
Says shelf (Ok s) (Ok a) = Keeps shelf s a
Says shelf (Ok s) (Err f) = ⊥
Says shelf (Err g) (Ok a) = ⊥
Says shelf (Err g) (Err f) = g ≡ f

-- a rule that was read says what the definition says, and what is worked out for it is right
abbrev pub Rules : {F : Type 0} → List Almanac → ℕ → Result Recurrence F → Result Ruled F → Type 0
Rules shelf start (Ok r) (Ok u) = (ruled_in (Some r) ≡ Some u) × LastRight shelf start (Some r)
Rules shelf start (Ok r) (Err f) = ⊥
Rules shelf start (Err g) (Ok u) = ⊥
Rules shelf start (Err g) (Err f) = g ≡ f

abbrev pub RulesOrNone : List Almanac → ℕ → Result (Option Recurrence) Fault → Result (Option Ruled) Fault → Type 0
RulesOrNone shelf start (Ok r) (Ok u) = (ruled_in r ≡ u) × LastRight shelf start r
RulesOrNone shelf start (Ok r) (Err f) = ⊥
RulesOrNone shelf start (Err g) (Ok u) = ⊥
RulesOrNone shelf start (Err g) (Err f) = g ≡ f
