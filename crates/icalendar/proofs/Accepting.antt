-- An event that passes every question, and the record that keeps it.
-- The library has no lemmas of verdicts, and the check does not go through the definition by itself.
use Rattle.std.proofs.Common.{◌≡◌, ℕ, List, Some, None, Ok, Err, codes, Option, Result, sym, subst}
use Rattle.calendar.specs.Sheets.{Almanac}
use Rattle.components.specs.Events.{Event, picked}
use Rattle.vevent.specs.declared.questions.EventFault.{EventFault}
use Rattle.vevent.specs.Questions.{asked, first_failed}
use Rattle.vevent.specs.Kept.{start_of}
use Rattle.series.specs.declared.record.Series.{Series}
use Rattle.series.specs.Record.{Ruled, Accepted, Keeps, ruled_in, LastRight}
use Rattle.icalendar.specs.declared.fault.Fault.{Fault}
use Rattle.refusals.specs.declared.asked.Failed.TheVariants.{Event as EventFailed}
use Rattle.icalendar.specs.Verdicts.{verdict, started, kept, or_fault, rule_among, failed_at, Says, RulesOrNone}

-- what becomes of an event, by the first question on its own lines that it fails
abbrev by_check : List Almanac → ℕ → Event → Option EventFault → Result Accepted Fault
by_check shelf file e (Some f) = Err (failed_at f.place (EventFailed f.question))
by_check shelf file e None = started shelf file e (start_of e)

module _ (shelf : List Almanac) (file : ℕ) (e : Event) (s : Series) (start : ℕ) where
  keeps : (d : Result (Option Ruled) Fault) → RulesOrNone shelf start (Ok s.recurrence) d → ((u : Option Ruled) → ruled_in s.recurrence ≡ u → LastRight shelf start s.recurrence → Keeps shelf s (kept file e start u)) → Says shelf (Ok s) (or_fault file e start d)
  keeps (Ok u) h all = all u h.0 h.1
  keeps (Err f) h all = absurd h

  pub accepted : first_failed asked e ≡ None → start_of e ≡ Some start → RulesOrNone shelf start (Ok s.recurrence) (rule_among shelf start (picked (codes "RRULE") e.lines))
      → ((u : Option Ruled) → ruled_in s.recurrence ≡ u → LastRight shelf start s.recurrence → Keeps shelf s (kept file e start u))
      → Says shelf (Ok s) (verdict shelf file e)
  accepted passes starts rule all =
      subst (λ (o : Option EventFault). Says shelf (Ok s) (by_check shelf file e o)) (sym passes)
      (subst (λ (o : Option ℕ). Says shelf (Ok s) (started shelf file e o)) (sym starts)
      (keeps (rule_among shelf start (picked (codes "RRULE") e.lines)) rule all))
