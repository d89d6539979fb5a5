-- The month codes of years: plain codes in turn, and those with the leap month 5L.
use Rattle.std.specs.Prelude.{List, [], ◌∷◌, ◌++◌}
use Rattle.calendar.specs.declared.sheet.MonthCode.{MonthCode}
use Rattle.calendar.specs.Sheets.{leap_code, no_code}
use Rattle.calendar.specs.Codes.{plain_codes}

abbrev pub twelve_codes : List MonthCode
twelve_codes = plain_codes 1 12 ++ (no_code ∷ [])

abbrev pub thirteen_codes : List MonthCode
thirteen_codes = plain_codes 1 13

abbrev pub codes_with_5L : List MonthCode
codes_with_5L = plain_codes 1 5 ++ (leap_code 5 ∷ plain_codes 6 7)
