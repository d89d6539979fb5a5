-- The line of a fault: `001 003 00014 C 41` and a line feed are the file, its event, the place, the layer and the question. The
-- numbers are written by the digits shown: those of a larger number are its last ones.
use Rattle.std.specs.Prelude.{ℕ, ◌+◌, ◌/◌, ◌%◌, List, [], ◌∷◌, ◌++◌}
use Rattle.refusals.specs.Numbers.{number, letter}
use Rattle.icalendar.specs.declared.fault.Fault.{Fault}
use Rattle.report.specs.declared.entries.FaultEntry.{FaultEntry}

-- the decimal digit of n at the place of this worth, as a byte
abbrev pub digit_at : ℕ → ℕ → ℕ
digit_at n worth = 48 + n / worth % 10

abbrev pub two_digits : ℕ → List ℕ
two_digits n = digit_at n 10 ∷ digit_at n 1 ∷ []

abbrev pub three_digits : ℕ → List ℕ
three_digits n = digit_at n 100 ∷ two_digits n

abbrev pub five_digits : ℕ → List ℕ
five_digits n = digit_at n 10000 ∷ digit_at n 1000 ∷ three_digits n

-- the place, the letter of the layer and the number of a fault
abbrev pub fault_text : Fault → List ℕ
fault_text f = five_digits f.place ++ (32 ∷ letter f.failed ∷ 32 ∷ two_digits (number f.failed))

-- the line of an entry
abbrev pub entry_line : FaultEntry → List ℕ
entry_line e = three_digits e.file ++ (32 ∷ three_digits e.event) ++ (32 ∷ fault_text e.fault) ++ (10 ∷ [])
