-- A series record gives the days of the event that it keeps.
use Rattle.std.proofs.Common.{◌≡◌, List, ap, ◌∙◌}
use Rattle.calendar.specs.Sheets.{Almanac}
use Rattle.sources.specs.Events.{event_days}
use Rattle.series.specs.declared.record.Series.{Series}
use Rattle.series.specs.Record.{Accepted, Keeps, rule_days, limit_of, ruled_in, series_days, days_given}

pub same_days : (shelf : List Almanac) (s : Series) (e : Accepted) → Keeps shelf s e → series_days shelf s ≡ days_given shelf e
same_days shelf s e k =
    ap (λ rs. event_days (rule_days shelf (ruled_in s.recurrence) s.start) (limit_of (ruled_in s.recurrence)) rs s.exdates) k.rdates
    ∙ ap (λ xs. event_days (rule_days shelf (ruled_in s.recurrence) s.start) (limit_of (ruled_in s.recurrence)) e.rdates xs) k.exdates
    ∙ ap (λ d. event_days (rule_days shelf (ruled_in s.recurrence) d) (limit_of (ruled_in s.recurrence)) e.rdates e.exdates) k.start
    ∙ ap (λ u. event_days (rule_days shelf u e.start) (limit_of u) e.rdates e.exdates) k.ruled
