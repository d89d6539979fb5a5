-- The words of each question.
use Rattle.std.specs.Prelude.{ℕ, List, codes}
use Rattle.refusals.specs.declared.asked.FileQuestion.{FileQuestion}
use Rattle.refusals.specs.declared.asked.FileQuestion.TheVariants.{Size, LineEnds, LineForms, Nesting}
use Rattle.refusals.specs.declared.asked.PlanQuestion.{PlanQuestion}
use Rattle.refusals.specs.declared.asked.PlanQuestion.TheVariants.{FullTables, WindowInRange, WindowInOrder, FewFiles, RoomForSeries, RoomForFaults, DayInWindow, DayNotPassed, RoomForReport}
use Rattle.refusals.specs.declared.asked.EventQuestion.{EventQuestion}
use Rattle.refusals.specs.declared.asked.EventQuestion.TheVariants.{OneStart, StartDate, StartInRange, OneRule, DateLists, FewDates, NothingReplaced}
use Rattle.refusals.specs.declared.asked.RuleQuestion.{RuleQuestion}
use Rattle.refusals.specs.declared.asked.RuleQuestion.TheVariants.{NamedParts, ValueForms, HasFrequency, OneLimit, ScaledSkip, NoMonthDaysInWeeks, NumberedWeekdays}
use Rattle.refusals.specs.declared.asked.CalendarQuestion.{CalendarQuestion}
use Rattle.refusals.specs.declared.asked.CalendarQuestion.TheVariants.{OnShelf, KnownMonths, StartIsFirst}
use Rattle.refusals.specs.declared.asked.Failed.{Failed}
use Rattle.refusals.specs.declared.asked.Failed.TheVariants.{Event, Rule, Calendar}

-- ── a file ──

abbrev pub file_words : FileQuestion → List ℕ
file_words Size = codes "has it at most 60,000 bytes?"
file_words LineEnds = codes "has it lines, each ending in CR LF, with no other CR or LF?"
file_words LineForms = codes "is each line a name, parameters each begun by a semicolon, and a colon outside quotes?"
file_words Nesting = codes "is it one VCALENDAR, each END matching the innermost BEGIN, at most eight levels deep?"

-- ── a call of the plan ──

abbrev pub plan_words : PlanQuestion → List ℕ
plan_words FullTables = codes "has each table all places in use, and the queue one for each series?"
plan_words WindowInRange = codes "are both days from 1900 to 2199?"
plan_words WindowInOrder = codes "is the first day not after the last?"
plan_words FewFiles = codes "are fewer than 999 files accepted?"
plan_words RoomForSeries = codes "have series and queue as many free places as the file has events?"
plan_words RoomForFaults = codes "have the faults as many free places as the file has events?"
plan_words DayInWindow = codes "is the day in the window?"
plan_words DayNotPassed = codes "is the day not before the mark's?"
plan_words RoomForReport = codes "has the text buffer 19 bytes for each fault?"

-- ── an event's own lines, layer E ──

abbrev pub event_words : EventQuestion → List ℕ
event_words OneStart = codes "is there just one DTSTART?"
event_words StartDate = codes "has DTSTART VALUE=DATE and a real date?"
event_words StartInRange = codes "is DTSTART from 1900 to 2199?"
event_words OneRule = codes "is there at most one RRULE?"
event_words DateLists = codes "has each RDATE and EXDATE VALUE=DATE and real dates from 1900 to 2199 between commas?"
event_words FewDates = codes "are there at most 16 RDATE and 32 EXDATE dates?"
event_words NothingReplaced = codes "is there no RECURRENCE-ID and no EXRULE?"

-- ── the text of a rule, layer R ──

abbrev pub rule_words : RuleQuestion → List ℕ
rule_words NamedParts = codes "is RRULE NAME=VALUE parts between semicolons, of known names, none twice?"
rule_words ValueForms = codes "has each part of RRULE the form that its name asks for?"
rule_words HasFrequency = codes "has RRULE a FREQ?"
rule_words OneLimit = codes "has RRULE not both COUNT and UNTIL?"
rule_words ScaledSkip = codes "has RRULE SKIP only with RSCALE?"
rule_words NoMonthDaysInWeeks = codes "has RRULE no BYMONTHDAY with WEEKLY?"
rule_words NumberedWeekdays = codes "has RRULE numbers in BYDAY only with MONTHLY or YEARLY and without BYMONTHDAY?"

-- ── a rule about its calendar, layer C ──

abbrev pub calendar_words : CalendarQuestion → List ℕ
calendar_words OnShelf = codes "is the calendar on the shelf?"
calendar_words KnownMonths = codes "has the calendar the months of BYMONTH?"
calendar_words StartIsFirst = codes "is DTSTART the first day that the rule gives, and not after UNTIL?"

-- ── of any layer ──

abbrev pub words : Failed → List ℕ
words (Event q) = event_words q
words (Rule q) = rule_words q
words (Calendar q) = calendar_words q
