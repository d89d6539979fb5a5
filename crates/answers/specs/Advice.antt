-- What to do about an event that fails a question, and the line of a fault in the list of a season.
use Rattle.std.specs.Prelude.{ℕ, List, ◌++◌, codes, decimal}
use Rattle.refusals.specs.declared.asked.EventQuestion.{EventQuestion}
use Rattle.refusals.specs.declared.asked.EventQuestion.TheVariants.{OneStart, StartDate, StartInRange, OneRule, DateLists, FewDates, NothingReplaced}
use Rattle.refusals.specs.declared.asked.RuleQuestion.{RuleQuestion}
use Rattle.refusals.specs.declared.asked.RuleQuestion.TheVariants.{NamedParts, ValueForms, HasFrequency, OneLimit, ScaledSkip, NoMonthDaysInWeeks, NumberedWeekdays}
use Rattle.refusals.specs.declared.asked.CalendarQuestion.{CalendarQuestion}
use Rattle.refusals.specs.declared.asked.CalendarQuestion.TheVariants.{OnShelf, KnownMonths, StartIsFirst}
use Rattle.refusals.specs.declared.asked.Failed.{Failed}
use Rattle.refusals.specs.declared.asked.Failed.TheVariants.{Event, Rule, Calendar}
use Rattle.refusals.specs.Words.{words}
use Rattle.report.specs.declared.entries.FaultEntry.{FaultEntry}
use Rattle.listing.specs.Texts.{line_end}

-- ── an event's own lines ──

abbrev pub event_advice : EventQuestion → List ℕ
event_advice OneStart = codes "Give the event just one DTSTART line."
event_advice StartDate = codes "Write DTSTART;VALUE=DATE: and the eight digits of a date."
event_advice StartInRange = codes "Give DTSTART a date from 1900 to 2199."
event_advice OneRule = codes "Keep one RRULE line and delete the others."
event_advice DateLists = codes "Write ;VALUE=DATE: and dates from 1900 to 2199 with commas between them."
event_advice FewDates = codes "Keep at most 16 RDATE and 32 EXDATE dates."
event_advice NothingReplaced = codes "Delete RECURRENCE-ID and EXRULE, and use EXDATE and RDATE."

-- ── the text of a rule ──

abbrev pub rule_advice : RuleQuestion → List ℕ
rule_advice NamedParts = codes "Write RRULE as NAME=VALUE parts between semicolons, each known name once."
rule_advice ValueForms = codes "Correct the part of RRULE whose value its name does not allow."
rule_advice HasFrequency = codes "Add FREQ to RRULE, as FREQ=WEEKLY."
rule_advice OneLimit = codes "Delete COUNT or UNTIL."
rule_advice ScaledSkip = codes "Delete SKIP, or name a calendar with RSCALE."
rule_advice NoMonthDaysInWeeks = codes "Delete BYMONTHDAY, or write FREQ=MONTHLY."
rule_advice NumberedWeekdays = codes "Delete the numbers in BYDAY, or write FREQ=MONTHLY without BYMONTHDAY."

-- ── a rule about its calendar ──

abbrev pub calendar_advice : CalendarQuestion → List ℕ
calendar_advice OnShelf = codes "Name a calendar of the shelf in RSCALE."
calendar_advice KnownMonths = codes "Delete the months in BYMONTH that the calendar does not have."
calendar_advice StartIsFirst = codes "Make DTSTART the first day of the rule, not after UNTIL."

-- ── of any layer ──

abbrev pub advice : Failed → List ℕ
advice (Event q) = event_advice q
advice (Rule q) = rule_advice q
advice (Calendar q) = calendar_advice q

-- the line and the event of a fault, the question that fails, in words, and what to do
abbrev pub fault_words : FaultEntry → List ℕ
fault_words e =
    codes " line " ++ (decimal e.fault.place ++ (codes ", event " ++ (decimal e.event ++ (codes ": " ++
    (words e.fault.failed ++ (codes " " ++ (advice e.fault.failed ++ line_end)))))))

-- all that, after the name of the file
abbrev pub advice_text : List ℕ → FaultEntry → List ℕ
advice_text name e = name ++ fault_words e
