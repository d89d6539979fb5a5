-- What is kept of an event's own lines: its start, its added and excluded days, its title.
use Rattle.std.specs.Prelude.{ℕ, List, [], ◌∷◌, ◌++◌, take, Some, None, codes, Option}
use Rattle.lines.specs.Lines.{Line}
use Rattle.lines.specs.Property.{value}
use Rattle.components.specs.Events.{Event, picked}
use Rattle.vevent.specs.Lists.{days_among}
use Rattle.vevent.specs.Questions.{date_of_line, dates_on, starts}

-- the day that the first of the lines names
abbrev pub first_day : List Line → Option ℕ
first_day [] = None
first_day (l ∷ ls) = date_of_line l.text

abbrev pub start_of : Event → Option ℕ
start_of e = first_day (starts e)

-- the days in the range that lines list, in their order, repeats included
abbrev pub days_listed : List Line → List ℕ
days_listed [] = []
days_listed (l ∷ ls) = days_among (dates_on l.text) ++ days_listed ls

abbrev pub rdates : Event → List ℕ
rdates e = days_listed (picked (codes "RDATE") e.lines)

abbrev pub exdates : Event → List ℕ
exdates e = days_listed (picked (codes "EXDATE") e.lines)

-- the first 32 bytes of the first SUMMARY's value
abbrev pub first_title : List Line → Option (List ℕ)
first_title [] = None
first_title (l ∷ ls) = Some (take 32 (value l.text))

abbrev pub title_of : Event → Option (List ℕ)
title_of e = first_title (picked (codes "SUMMARY") e.lines)
