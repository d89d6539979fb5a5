-- Each day of the range has eight digits that read as it.
use Rattle.std.proofs.Common.{◌≡◌, ℕ, zero, suc, ◌+◌, ◌-◌, ◌<◌, ◌≤◌, true, None, refl, arith, ⊎_elim}
use Rattle.std.proofs.lemmas.Bool.{cases_lt}
use Rattle.std.proofs.lemmas.Bool.Decides.{nat_tests}
use Rattle.days.specs.Numbers.{in_range}
use Rattle.days.specs.Gregorian.{new_year, month_lengths, InYear}
use Rattle.days.specs.Digits.{date_text, Written}
use Rattle.days.proofs.Totals.{falls_somewhere}
use Rattle.days.proofs.Years.{next_year, date_of_some}
use Rattle.days.proofs.Texts.{written_some}

-- a day that lies in a stretch of k years lies in one of them
in_one : (k y n : ℕ) → 1 ≤ y → y + k ≤ 10000 → new_year y ≤ n → n < new_year (y + k) → (z : ℕ) × InYear n z
in_one zero y n from to begun not_over = let e : y + 0 ≡ y = omega arith in let h = rw e at not_over in absurd (let l = begun in omega arith)
in_one (suc k) y n from to begun not_over =
    let e : y + suc k ≡ y + 1 + k = omega arith in
    ⊎_elim
    (λ (h : n < new_year (y + 1)). (y, record { year_from = from; year_to = omega arith; begun = begun; not_over = h }))
    (λ (h : new_year (y + 1) ≤ n). in_one k (y + 1) n (omega arith) (omega arith) h (rw e at not_over))
    (cases_lt n (new_year (y + 1)))

-- the text of a day of the range is not missing
pub not_missing : (n : ℕ) → in_range n ≡ true → Written n None → ⊥
not_missing n ranged none =
    let low : 693596 ≤ n = grind (arith, nat_tests) in
    let high : n < 803169 = grind (arith, nat_tests) in
    let year = in_one 300 1900 n (omega arith) (omega arith) low high in
    let y = year.0 in
    let in_it = year.1 in
    let begun = in_it.begun in
    let not_over = in_it.not_over in
    let next = next_year y in_it.year_from in
    let day = falls_somewhere (month_lengths y) (n - new_year y) (omega arith) in
    let dated = date_of_some n y day.0 day.1 (record { year = in_it; falls = day.2 }) in
    let text = written_some n y day.0 day.1 (date_text y day.0 day.1) ranged dated refl in
    let read = text.reads (date_text y day.0 day.1) refl in
    let missing = none.only (date_text y day.0 day.1) ranged read.1 in
    cc
