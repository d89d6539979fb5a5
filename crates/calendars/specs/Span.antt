-- Which years a calendar answers: those that lie wholly in the span, the days 693,000 to 804,000.
use Rattle.std.specs.Prelude.{ℕ, ◌+◌, Bool, cond, ◌&&◌, nat_le}
use Rattle.calendar.specs.declared.sheet.Sheet.{Sheet}
use Rattle.calendar.specs.Sheets.{empty_sheet, days_of}

abbrev pub whole : Sheet → Bool
whole s = nat_le 693000 s.first && nat_le (s.first + days_of s) 804001

-- the sheets of a calendar whose year y has the sheet f y
abbrev pub in_span : (ℕ → Sheet) → ℕ → Sheet
in_span f y = cond (whole (f y)) (f y) empty_sheet
