-- A rule that is read, and what is asked of its calendar.
use Rattle.std.proofs.Common.{◌≡◌, ℕ, List, Some, None, Ok, Err, Option, Result, MatchOption, sym, refl, ap, subst}
use Rattle.calendar.specs.Sheets.{Almanac}
use Rattle.lines.specs.Lines.{Line}
use Rattle.lines.specs.Property.{value}
use Rattle.std.specs.Iterator.{YieldsFirstBy}
use Rattle.std.specs.Option.{IsSomeAnd, option_transpose}
use Rattle.std.specs.Result.{MatchResult, IsErrAnd}
use Rattle.lines.specs.declared.cursor.Cursor.{Cursor}
use Rattle.lines.specs.View.{line_of}
use Rattle.rrule.specs.Rule.{Said}
use Rattle.rrule.specs.Questions.{rule_read}
use Rattle.refusals.specs.declared.asked.RuleQuestion.{RuleQuestion}
use Rattle.series.specs.declared.record.Recurrence.{Recurrence}
use Rattle.series.specs.Record.{Ruled}
use Rattle.refusals.specs.declared.asked.CalendarQuestion.{CalendarQuestion}
use Rattle.icalendar.specs.declared.fault.Fault.{Fault}
use Rattle.refusals.specs.declared.asked.Failed.TheVariants.{Rule as RuleFailed, Calendar as CalendarFailed}
use Rattle.icalendar.specs.Verdicts.{Rules, RulesOrNone, on_calendar, rule_on, rule_among, some_rule, or_calendar_fault, failed_at}

-- the rule on a line, once its text is read
abbrev by_text : List Almanac → ℕ → ℕ → Result Said RuleQuestion → Result Ruled Fault
by_text shelf start p (Ok r) = or_calendar_fault p (on_calendar shelf r start)
by_text shelf start p (Err f) = Err (failed_at p (RuleFailed f))

-- an answer on the calendar, as an answer on the line
abbrev pub with_place : ℕ → Result Recurrence CalendarQuestion → Result Recurrence Fault
with_place p (Ok r) = Ok r
with_place p (Err q) = Err (failed_at p (CalendarFailed q))

placed : (shelf : List Almanac) (start p : ℕ) (a : Result Recurrence CalendarQuestion) (d : Result Ruled CalendarQuestion) → Rules shelf start a d → Rules shelf start (with_place p a) (or_calendar_fault p d)
placed shelf start p (Ok r) (Ok u) h = h
placed shelf start p (Ok r) (Err q) h = absurd h
placed shelf start p (Err q) (Ok u) h = absurd h
placed shelf start p (Err q) (Err k) h = ap (λ x. failed_at p (CalendarFailed x)) h

pub on_line : (shelf : List Almanac) (start : ℕ) (l : Line) (r : Said) (a : Result Recurrence CalendarQuestion) → Ok r ≡ rule_read (value l.text) → Rules shelf start a (on_calendar shelf r start) → Rules shelf start (with_place l.place a) (rule_on shelf start l)
on_line shelf start l r a e h =
    subst (λ (x : Result Said RuleQuestion). Rules shelf start (with_place l.place a) (by_text shelf start l.place x)) e (placed shelf start l.place a (on_calendar shelf r start) h)

-- ── the rule among an event's lines ──

some_ruled : (shelf : List Almanac) (start : ℕ) (a : Result Recurrence Fault) (d : Result Ruled Fault) → Rules shelf start a d → RulesOrNone shelf start (option_transpose (Some a)) (some_rule d)
some_ruled shelf start (Ok r) (Ok u) h = h
some_ruled shelf start (Ok r) (Err f) h = absurd h
some_ruled shelf start (Err f) (Ok u) h = absurd h
some_ruled shelf start (Err f) (Err k) h = h

module _ (shelf : List Almanac) (start : ℕ) (Post : Cursor → Result Recurrence Fault → Type 0) (says : (line : Cursor) (a : Result Recurrence Fault) → Post line a → Rules shelf start a (rule_on shelf start (line_of line))) where
  -- the first of the lines that are left is read, if there is one
  pub among : (ps later : List Line) (first : Option Cursor) (read : Option (Result Recurrence Fault)) → YieldsFirstBy line_of (λ s. s) ps first later
      → MatchOption first (read ≡ None) (λ line. IsSomeAnd read (Post line)) → RulesOrNone shelf start (option_transpose read) (rule_among shelf start ps)
  among ps later None read from none = rw (none, from.0) (refl, tt)
  among ps later (Some line) None from post = absurd post
  among ps later (Some line) (Some a) from post = subst (λ (qs : List Line). RulesOrNone shelf start (option_transpose (Some a)) (rule_among shelf start qs)) (sym from) (some_ruled shelf start a (rule_on shelf start (line_of line)) (says line a post))

-- ── what a closure that names the place makes of a question ──

pub named_question : (p : ℕ) (Post : CalendarQuestion → Fault → Type 0) → ((q : CalendarQuestion) (f : Fault) → Post q f → f ≡ failed_at p (CalendarFailed q))
    → (a : Result Recurrence CalendarQuestion) (b : Result Recurrence Fault) → MatchResult a (λ r. b ≡ Ok r) (λ q. IsErrAnd b (Post q)) → b ≡ with_place p a
named_question p Post says (Ok r) b h = h
named_question p Post says (Err q) (Ok r) h = absurd h
named_question p Post says (Err q) (Err f) h = ap Err (says q f h)

-- a rule whose text fails a question
pub unread : (shelf : List Almanac) (start : ℕ) (l : Line) (f : RuleQuestion) (g : Fault) → Err f ≡ rule_read (value l.text) → g ≡ failed_at l.place (RuleFailed f) → Rules shelf start (Err g) (rule_on shelf start l)
unread shelf start l f g e k = subst (λ (x : Result Said RuleQuestion). Rules shelf start (Err g) (by_text shelf start l.place x)) e k
