-- How numbers, month codes and dates are printed.
use Rattle.std.specs.Prelude.{ℕ, ◌-◌, cond, List, [], ◌++◌, length, replicate, codes, decimal}
use Rattle.calendar.specs.declared.sheet.MonthCode.{MonthCode}
use Rattle.calendar.specs.declared.dates.NamedDate.{NamedDate}

-- n zeros
abbrev pub zeros : ℕ → List ℕ
zeros n = replicate n 48

-- a number in decimal digits, with zeros before them up to the width
abbrev pub padded : ℕ → ℕ → List ℕ
padded width n = zeros (width - length (decimal n)) ++ decimal n

-- a month code: two digits, and L for a leap month
abbrev pub code_text : MonthCode → List ℕ
code_text c = padded 2 c.number ++ cond c.leap (codes "L") []

-- a date: year, month code and day
abbrev pub named_text : NamedDate → List ℕ
named_text t = padded 4 t.year ++ (codes "-" ++ (code_text t.code ++ (codes "-" ++ padded 2 t.day)))
