-- The laws of the sample calendar, from a computed test of its years.
use Rattle.std.specs.Prelude.{◌≡◌, ℕ, ◌%◌, ◌<◌, ◌≤◌, true, cond, ◌||◌, ◌==◌, refl}
use Rattle.std.proofs.Common.{⊎_elim, arith}
use Rattle.std.proofs.lemmas.Bool.{eqb-true, or_cases, cond_both}
use Rattle.calendar.specs.declared.sheet.Sheet.{Sheet}
use Rattle.calendar.specs.Laws.{Lawful}
use Rattle.calendar.proofs.Tested.{lawful}
use Rattle.calendars.specs.Years.{Years, silent}
use Rattle.sample.specs.Wandering.{wandering, wandering_year, new_year, common_year, year_with_3L, year_with_9L}

stated : (n : ℕ) → (n == 3 || n == 9) ≡ true → (1 ≤ n) × (n < 12)
stated n e =
    ⊎_elim (λ t. let i = eqb-true n 3 t in (omega arith, omega arith)) (λ t. let i = eqb-true n 9 t in (omega arith, omega arith))
    (or_cases (n == 3) (n == 9) e)

-- every kind of year begins on the day that is reckoned
begins : (y : ℕ) → (wandering_year y).first ≡ new_year y
begins y =
    cond_both (y % 6 == 0) (year_with_9L (new_year y)) (cond (y % 3 == 0) (year_with_3L (new_year y)) (common_year (new_year y)))
    (λ (s : Sheet). s.first ≡ new_year y) (λ _. refl)
    (λ _. cond_both (y % 3 == 0) (year_with_3L (new_year y)) (common_year (new_year y)) (λ (s : Sheet). s.first ≡ new_year y) (λ _. refl) (λ _. refl))

years : Years wandering wandering_year
years = record { early = λ y l. let b = begins y in omega arith; next = refl; late = λ y l. let b = begins y in omega arith }

pub laws : Lawful wandering
laws = lawful wandering record { leaps = stated; silent = silent _ _ years; computed = refl }
