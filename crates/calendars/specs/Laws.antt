-- The laws of each calendar, from computed tests of its years.
use Rattle.std.specs.Prelude.{◌≡◌, ℕ, ◌<◌, ◌≤◌, true, false, refl}
use Rattle.std.proofs.Common.{sym, arith}
use Rattle.std.proofs.lemmas.Bool.{true≢false, eqb-true}
use Rattle.calendar.specs.Laws.{Lawful}
use Rattle.calendar.proofs.Tested.{lawful}
use Rattle.calendars.specs.Gregorian.{gregorian, gregorian_year}
use Rattle.calendars.specs.Coptic.{coptic, coptic_year}
use Rattle.calendars.specs.Islamic.{islamic_civil, islamic_year}
use Rattle.calendars.specs.Hebrew.{hebrew, hebrew_year}
use Rattle.calendars.specs.Years.{Years, silent}
use Rattle.calendars.specs.Moons.{early, late}

no_leaps : (top n : ℕ) → false ≡ true → (1 ≤ n) × (n < top)
no_leaps top n e = absurd (true≢false (sym e))

gregorian_years : Years gregorian gregorian_year
gregorian_years = record { early = λ y l. omega arith; next = refl; late = λ y l. omega arith }

pub gregorian_laws : Lawful gregorian
gregorian_laws =
    lawful gregorian record { leaps = no_leaps 12; silent = silent _ _ gregorian_years; computed = refl }

coptic_years : Years coptic coptic_year
coptic_years = record { early = λ y l. omega arith; next = refl; late = λ y l. omega arith }

pub coptic_laws : Lawful coptic
coptic_laws = lawful coptic record { leaps = no_leaps 13; silent = silent _ _ coptic_years; computed = refl }

islamic_years : Years islamic_civil islamic_year
islamic_years = record { early = λ y l. omega arith; next = refl; late = λ y l. omega arith }

pub islamic_laws : Lawful islamic_civil
islamic_laws =
    lawful islamic_civil record { leaps = no_leaps 12; silent = silent _ _ islamic_years; computed = refl }

pub hebrew_years : Years hebrew hebrew_year
hebrew_years = record { early = early; next = refl; late = late }

pub hebrew_laws : Lawful hebrew
hebrew_laws =
    lawful hebrew
    record {
      leaps = λ n e. let five = eqb-true n 5 e in (omega arith, omega arith);
      silent = silent _ _ hebrew_years;
      computed = refl;
    }
