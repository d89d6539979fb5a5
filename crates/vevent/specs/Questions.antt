-- The questions on an event's own lines, in their order: each gives the place of the line that fails it, or none.
use Rattle.std.specs.Prelude.{ℕ, min, Bool, cond, ◌&&◌, not, List, [], ◌∷◌, length, is_some, Some, None, Ok, Err, codes, Option, Result}
use Rattle.std.specs.List.{find}
use Rattle.std.specs.Option.{option_map}
use Rattle.text.specs.Dates.{day_in}
use Rattle.text.specs.Pieces.{pieces}
use Rattle.lines.specs.Lines.{Line}
use Rattle.lines.specs.Property.{date_valued, value}
use Rattle.components.specs.Events.{Event, picked}
use Rattle.refusals.specs.declared.asked.EventQuestion.{EventQuestion}
use Rattle.refusals.specs.declared.asked.EventQuestion.TheVariants.{OneStart, StartDate, StartInRange, OneRule, DateLists, FewDates, NothingReplaced}
use Rattle.vevent.specs.declared.questions.EventFault.{EventFault}
use Rattle.vevent.specs.Lists.{if_ranged, all_days, room_after}

-- where the first line stands, and the second
abbrev pub first_place : List Line → Option ℕ
first_place [] = None
first_place (l ∷ ls) = Some l.place

abbrev pub second_place : List Line → Option ℕ
second_place [] = None
second_place (l ∷ ls) = first_place ls

-- the earlier of two places
abbrev pub sooner : Option ℕ → Option ℕ → Option ℕ
sooner None q = q
sooner (Some p) None = Some p
sooner (Some p) (Some q) = Some (min p q)

-- where the first line stands whose text fails a test
abbrev pub first_failing : (List ℕ → Bool) → List Line → Option ℕ
first_failing test ls = option_map (λ l. l.place) (find (λ l. not (test l.text)) ls)

-- the day that a line names by VALUE=DATE and a real date
abbrev pub date_of_line : List ℕ → Option ℕ
date_of_line t = cond (date_valued t) (day_in (value t)) None

-- the dates on a line, as they are written between commas
abbrev pub dates_on : List ℕ → List (List ℕ)
dates_on t = pieces 44 (value t)

-- a line lists days by VALUE=DATE and real dates in the range
abbrev pub lists_days : List ℕ → Bool
lists_days t = date_valued t && all_days (dates_on t)

-- where the line stands that has the first date for which there is no room
abbrev pub first_too_many : ℕ → List Line → Option ℕ
first_too_many room [] = None
first_too_many room (l ∷ ls) = elim (room_after room (length (dates_on l.text))) [ Some left ↦ first_too_many left ls | None ↦ Some l.place ]

-- ── the questions ──

abbrev pub starts : Event → List Line
starts e = picked (codes "DTSTART") e.lines

-- just one DTSTART: the place is BEGIN's if it is missing, the second's if there are more
abbrev pub lone : ℕ → List Line → Option ℕ
lone begin [] = Some begin
lone begin (l ∷ ls) = first_place ls

abbrev pub one_start : Event → Option ℕ
one_start e = lone e.place (starts e)

-- VALUE=DATE and a real date
abbrev pub start_date : Event → Option ℕ
start_date e = first_failing (λ t. is_some (date_of_line t)) (starts e)

-- in the range
abbrev pub start_in_range : Event → Option ℕ
start_in_range e = first_failing (λ t. is_some (if_ranged (date_of_line t))) (starts e)

-- at most one RRULE
abbrev pub one_rule : Event → Option ℕ
one_rule e = second_place (picked (codes "RRULE") e.lines)

-- each RDATE and EXDATE line lists days: the earliest that does not
abbrev pub date_lists : Event → Option ℕ
date_lists e = sooner (first_failing lists_days (picked (codes "RDATE") e.lines)) (first_failing lists_days (picked (codes "EXDATE") e.lines))

-- at most 16 RDATE and 32 EXDATE dates: the earlier of the lines with the first too many
abbrev pub few_dates : Event → Option ℕ
few_dates e = sooner (first_too_many 16 (picked (codes "RDATE") e.lines)) (first_too_many 32 (picked (codes "EXDATE") e.lines))

-- no RECURRENCE-ID and no EXRULE
abbrev pub nothing_replaced : Event → Option ℕ
nothing_replaced e = sooner (first_place (picked (codes "RECURRENCE-ID") e.lines)) (first_place (picked (codes "EXRULE") e.lines))

-- a question with what it asks of an event
pub record Asked : Type 0 where
  pub question : EventQuestion
  pub fails_at : Event → Option ℕ

abbrev pub asked : List Asked
asked =
    record { question = OneStart; fails_at = one_start } ∷
    record { question = StartDate; fails_at = start_date } ∷
    record { question = StartInRange; fails_at = start_in_range } ∷
    record { question = OneRule; fails_at = one_rule } ∷
    record { question = DateLists; fails_at = date_lists } ∷
    record { question = FewDates; fails_at = few_dates } ∷
    record { question = NothingReplaced; fails_at = nothing_replaced } ∷ []

-- the first question that fails, with its place
abbrev pub first_failed : List Asked → Event → Option EventFault
first_failed [] e = None
first_failed (q ∷ qs) e = elim (q.fails_at e) [ Some p ↦ Some (record { place = p; question = q.question }) | None ↦ first_failed qs e ]

abbrev pub verdict : {T : Type 0} → Result T EventFault → Option EventFault
verdict (Ok t) = None
verdict (Err f) = Some f
