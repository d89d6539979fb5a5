-- The month codes of years, in the order of the months: plain codes in turn, and at most one leap code among them.
use Rattle.std.specs.Prelude.{ℕ, List, map, Some, None, Option}
use Rattle.std.specs.List.{insert}
use Rattle.short_lists.specs.Places.{places}
use Rattle.calendar.specs.declared.sheet.MonthCode.{MonthCode}
use Rattle.calendar.specs.Sheets.{plain_code, leap_code, no_code}
use Rattle.calendar.specs.Laws.{counted}

-- n plain codes, from k on
abbrev pub plain_codes : ℕ → ℕ → List MonthCode
plain_codes k n = map plain_code (counted k n)

-- the plain codes 1 to n, and the leap code, if there is one, directly after the plain code of its number
abbrev pub codes_with : ℕ → Option ℕ → List MonthCode
codes_with n None = plain_codes 1 n
codes_with n (Some leap) = insert (plain_codes 1 n) leap (leap_code leap)

-- these and zeros behind: the codes of a year sheet
abbrev pub year_codes : ℕ → Option ℕ → List MonthCode
year_codes n leap = places 13 no_code (codes_with n leap)
