-- What is kept of an accepted event, the days that it gives, and how a series record keeps it.
use Rattle.std.specs.Prelude.{◌≡◌, ℕ, ◌+◌, ◌-◌, Bool, true, ◌&&◌, List, Some, None, Option, unwrap_or}
use Rattle.std.specs.List.{filter, range_with_len}
use Rattle.days.specs.Numbers.{in_range}
use Rattle.calendar.specs.Sheets.{Almanac}
use Rattle.calendar.specs.Shelves.{almanac_at}
use Rattle.sources.specs.declared.events.Limit.{Limit}
use Rattle.sources.specs.declared.events.Limit.TheVariants.{Endless}
use Rattle.sources.specs.declared.events.Ending.{Ending}
use Rattle.sources.specs.declared.events.Ending.TheVariants.{Endless as EndsNever, Until as EndsWith, Count as EndsAfter}
use Rattle.sources.specs.Sets.{single}
use Rattle.sources.specs.Events.{event_days, limit_in, Kept as KeptRight}
use Rattle.rules.specs.Meaning.{gives}
use Rattle.rules.specs.declared.parts.Parts.{Parts}
use Rattle.rules.specs.Making.{parts_give}
use Rattle.series.specs.declared.record.Recurrence.{Recurrence}
use Rattle.series.specs.declared.record.Series.{Series}

-- the rule of an event, over the calendar at a place of the shelf
pub record Ruled : Type 0 where
  pub parts : Parts
  pub limit : Limit
  pub place : ℕ
  -- RSCALE was written
  pub scaled : Bool

-- what is kept of an accepted event: the number of its file, its rule if it has one, DTSTART's day, its RDATE and EXDATE
-- days, and its title if it has one
pub record Accepted : Type 0 where
  pub file : ℕ
  pub ruled : Option Ruled
  pub start : ℕ
  pub rdates : List ℕ
  pub exdates : List ℕ
  pub title : Option (List ℕ)

-- ── its days ──

-- the days of the rule; without one, DTSTART takes its place
abbrev pub rule_days : List Almanac → Option Ruled → ℕ → ℕ → Bool
rule_days shelf (Some u) start = parts_give (almanac_at shelf u.place) u.parts start
rule_days shelf None start = single start

abbrev pub limit_of : Option Ruled → Limit
limit_of (Some u) = u.limit
limit_of None = Endless

abbrev pub days_given : List Almanac → Accepted → ℕ → Bool
days_given shelf e = event_days (rule_days shelf e.ruled e.start) (limit_of e.ruled) e.rdates e.exdates

-- the days of a set from one day to another, both included, in their order
abbrev pub days_between : (ℕ → Bool) → ℕ → ℕ → List ℕ
days_between set first last = filter (λ d. in_range d && set d) (range_with_len first (last + 1 - first))

-- ── as a series record keeps it ──

abbrev pub ruled_in : Option Recurrence → Option Ruled
ruled_in (Some r) = Some (record { parts = r.rule.parts; limit = limit_in r.ending; place = r.place; scaled = r.scaled })
ruled_in None = None

-- the days that a series record gives
abbrev pub series_days : List Almanac → Series → ℕ → Bool
series_days shelf s =
    event_days (rule_days shelf (ruled_in s.recurrence) s.start) (limit_of (ruled_in s.recurrence)) s.rdates s.exdates

-- all that a series record keeps
abbrev pub kept_in : Series → Accepted
kept_in s = record { file = s.file; ruled = ruled_in s.recurrence; start = s.start; rdates = s.rdates; exdates = s.exdates; title = s.title }

-- what is kept with a rule's ending is right: for a COUNT, the last of the counted days
abbrev pub LastRight : List Almanac → ℕ → Option Recurrence → Type 0
LastRight shelf start (Some r) = KeptRight (gives (almanac_at shelf r.place) r.rule start) r.ending
LastRight shelf start None = Unit {0}

-- The ending that a question goes by. For a COUNT it ends with the day that is kept as the last of the counted days, right or
-- not, and where none is kept with 0, which is before the range.
abbrev pub as_kept : Ending → Ending
as_kept EndsNever = EndsNever
as_kept (EndsWith day) = EndsWith day
as_kept (EndsAfter n last) = EndsWith (unwrap_or last 0)

-- what a question to a series needs, whose start is in the range by its type
pub record Ready (shelf : List Almanac) (s : Series) : Type 0 where
  pub last : LastRight shelf s.start s.recurrence

-- the series record keeps all that is kept of an event, and can be asked for its days
pub record Keeps (shelf : List Almanac) (s : Series) (e : Accepted) : Type 0 where
  pub file : s.file ≡ e.file
  pub ruled : ruled_in s.recurrence ≡ e.ruled
  pub start : s.start ≡ e.start
  pub rdates : s.rdates ≡ e.rdates
  pub exdates : s.exdates ≡ e.exdates
  pub title : s.title ≡ e.title
  pub ranged : in_range s.start ≡ true
  pub ready : Ready shelf s
