-- The number of each question, and the letter of the layer of those that an event is asked: E for the event's own lines, R for
-- the text of its rule, C for the rule's calendar.
use Rattle.std.specs.Prelude.{ℕ}
use Rattle.refusals.specs.declared.asked.FileQuestion.{FileQuestion}
use Rattle.refusals.specs.declared.asked.FileQuestion.TheVariants.{Size, LineEnds, LineForms, Nesting}
use Rattle.refusals.specs.declared.asked.PlanQuestion.{PlanQuestion}
use Rattle.refusals.specs.declared.asked.PlanQuestion.TheVariants.{FullTables, WindowInRange, WindowInOrder, FewFiles, RoomForSeries, RoomForFaults, DayInWindow, DayNotPassed, RoomForReport}
use Rattle.refusals.specs.declared.asked.EventQuestion.{EventQuestion}
use Rattle.refusals.specs.declared.asked.EventQuestion.TheVariants.{OneStart, StartDate, StartInRange, OneRule, DateLists, FewDates, NothingReplaced}
use Rattle.refusals.specs.declared.asked.RuleQuestion.{RuleQuestion}
use Rattle.refusals.specs.declared.asked.RuleQuestion.TheVariants.{NamedParts, ValueForms, HasFrequency, OneLimit, ScaledSkip, NoMonthDaysInWeeks, NumberedWeekdays}
use Rattle.refusals.specs.declared.asked.CalendarQuestion.{CalendarQuestion}
use Rattle.refusals.specs.declared.asked.CalendarQuestion.TheVariants.{OnShelf, KnownMonths, StartIsFirst}
use Rattle.refusals.specs.declared.asked.Failed.{Failed}
use Rattle.refusals.specs.declared.asked.Failed.TheVariants.{Event, Rule, Calendar}

-- ── a file ──

abbrev pub file_number : FileQuestion → ℕ
file_number Size = 4
file_number LineEnds = 5
file_number LineForms = 7
file_number Nesting = 8

-- ── a call of the plan ──

abbrev pub plan_number : PlanQuestion → ℕ
plan_number FullTables = 1
plan_number WindowInRange = 2
plan_number WindowInOrder = 3
plan_number FewFiles = 9
plan_number RoomForSeries = 10
plan_number RoomForFaults = 11
plan_number DayInWindow = 12
plan_number DayNotPassed = 13
plan_number RoomForReport = 14

-- ── an event's own lines, layer E ──

abbrev pub event_number : EventQuestion → ℕ
event_number OneStart = 21
event_number StartDate = 22
event_number StartInRange = 23
event_number OneRule = 24
event_number DateLists = 25
event_number FewDates = 26
event_number NothingReplaced = 27

-- ── the text of a rule, layer R ──

abbrev pub rule_number : RuleQuestion → ℕ
rule_number NamedParts = 31
rule_number ValueForms = 32
rule_number HasFrequency = 33
rule_number OneLimit = 34
rule_number ScaledSkip = 35
rule_number NoMonthDaysInWeeks = 38
rule_number NumberedWeekdays = 39

-- ── a rule about its calendar, layer C ──

abbrev pub calendar_number : CalendarQuestion → ℕ
calendar_number OnShelf = 36
calendar_number KnownMonths = 37
calendar_number StartIsFirst = 41

-- ── of any layer ──

abbrev pub number : Failed → ℕ
number (Event q) = event_number q
number (Rule q) = rule_number q
number (Calendar q) = calendar_number q

-- as a byte
abbrev pub letter : Failed → ℕ
letter (Event q) = 69
letter (Rule q) = 82
letter (Calendar q) = 67
