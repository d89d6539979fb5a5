-- The laws of each calendar, from computed tests of its years.
use Rattle.std.specs.Prelude.{◌≡◌, ℕ, ◌<◌, ◌≤◌, true, false, ◌&&◌, nat_le, refl}
use Rattle.std.proofs.Common.{sym, ⊎_elim, arith}
use Rattle.std.proofs.lemmas.Bool.{true≢false, leb-true, and_parts, and_left, and_right, lt-leb, cond-false, cases_lt}
use Rattle.calendar.specs.declared.sheet.Sheet.{Sheet}
use Rattle.calendar.specs.Sheets.{empty_sheet}
use Rattle.calendar.specs.Laws.{Lawful}
use Rattle.calendar.proofs.Tested.{lawful}
use Rattle.other_calendars.specs.Given.{given}
use Rattle.other_calendars.specs.SameName.{same_name}
use Rattle.other_calendars.specs.ShortMonths.{short_months}
use Rattle.other_calendars.specs.ManyLeaps.{many_leaps}

no_leaps : (top n : ℕ) → false ≡ true → (1 ≤ n) × (n < top)
no_leaps top n e = absurd (true≢false (sym e))

-- a year that is not given is not answered
silent : (lowest highest : ℕ) (f : ℕ → Sheet) (y : ℕ) → (lowest ≤ y → y ≤ highest → ⊥) → given lowest highest f y ≡ empty_sheet
silent lowest highest f y n =
    cond-false (nat_le lowest y && nat_le y highest) (f y) empty_sheet
    (⊎_elim (λ l. and_left (nat_le lowest y) (nat_le y highest) (lt-leb lowest y l))
    (λ l. and_right (nat_le lowest y) (nat_le y highest) (lt-leb y highest (omega (arith, cases_lt highest y, n l))))
    (cases_lt y lowest))

pub same_name_laws : Lawful same_name
same_name_laws = lawful same_name record { leaps = no_leaps 12; silent = silent _ _ _; computed = refl }

pub short_months_laws : Lawful short_months
short_months_laws = lawful short_months record { leaps = no_leaps 13; silent = silent _ _ _; computed = refl }

from_1_to_11 : (n : ℕ) → (nat_le 1 n && nat_le n 11) ≡ true → (1 ≤ n) × (n < 12)
from_1_to_11 n e =
    let both = and_parts (nat_le 1 n) (nat_le n 11) e in
    let from = leb-true 1 n both.0 in
    let to = leb-true n 11 both.1 in
    (from, omega arith)

pub many_leaps_laws : Lawful many_leaps
many_leaps_laws = lawful many_leaps record { leaps = from_1_to_11; silent = silent _ _ _; computed = refl }
