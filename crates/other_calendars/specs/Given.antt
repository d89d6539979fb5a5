-- Which years a calendar answers: those from the lowest to the highest that are given, and no other.
use Rattle.std.specs.Prelude.{ℕ, cond, ◌&&◌, nat_le}
use Rattle.calendar.specs.declared.sheet.Sheet.{Sheet}
use Rattle.calendar.specs.Sheets.{empty_sheet}

-- the sheets of a calendar whose year y has the sheet f y
abbrev pub given : ℕ → ℕ → (ℕ → Sheet) → ℕ → Sheet
given lowest highest f y = cond (nat_le lowest y && nat_le y highest) (f y) empty_sheet
