-- What is said of a text that is no date.
use Rattle.std.specs.Prelude.{ℕ, ◌+◌, ◌-◌, ◌^◌, min, List, ◌++◌, codes, decimal}
use Rattle.days.specs.declared.digits.DateFault.{DateFault}
use Rattle.days.specs.declared.digits.DateFault.TheVariants.{Length, NoDigit, NoSuchDay}

-- the place of a byte counts from 1, and stays within 64 bits
abbrev pub fault_text : DateFault → List ℕ
fault_text Length = codes "a date has eight digits"
fault_text (NoDigit i) = codes "byte " ++ (decimal (min (i + 1) (2 ^ 64 - 1)) ++ codes " of the date is no digit")
fault_text NoSuchDay = codes "there is no such date"
