-- The years of the Gregorian calendar: each begins where the one before it ends, and a date is a day of one year.
use Rattle.std.proofs.Common.{◌≡◌, ℕ, ◌+◌, ◌-◌, ◌<◌, ◌≤◌, true, false, Some, None, sym, ap, ◌∙◌, subst, ⊎_elim, arith, rules}
use Rattle.std.specs.List.{AllByRecursion}
use Rattle.std.proofs.ByRecursion.{All-get_or}
use Rattle.std.proofs.lemmas.Bool.{cases_lt, cases_Bool, cond-true, cond-false, and_parts, leb-true}
use Rattle.std.proofs.lemmas.Bool.Decides.{nat_tests}
use Rattle.days.specs.Months.{total, Has, Falls}
use Rattle.days.specs.Gregorian.{new_year, month_lengths, real, day_number, day_of_date, InYear, DateOf}
use Rattle.days.proofs.Totals.{falls_within, falls_once}

-- a year is over when its months are
pub next_year : (y : ℕ) → 1 ≤ y → new_year (y + 1) ≡ new_year y + total (month_lengths y)
next_year y h = grind (arith, nat_tests)

-- a later year begins no sooner than an earlier one is over
new_year_later : (y z : ℕ) → y < z → new_year (y + 1) ≤ new_year z
new_year_later y z h =
    ⊎_elim (λ (l : y + 1 < z). omega arith)
    (λ (l : z ≤ y + 1). let e : y + 1 ≡ z = omega arith in rw e (omega arith))
    (cases_lt (y + 1) z)

-- the days of the calendar's years
pub year_bounds : (n y : ℕ) → InYear n y → (1 ≤ n) × (n ≤ 3652059)
year_bounds n y h =
    let f = h.year_from in
    let b = h.begun in
    let t = h.year_to in
    let o = h.not_over in
    let l = new_year_later y 10000 (omega arith) in
    (omega arith, omega arith)

-- a day lies in one year only
year_once : (n y z : ℕ) → InYear n y → InYear n z → y ≡ z
year_once n y z f g =
    let fb = f.begun in
    let gb = g.begun in
    let fo = f.not_over in
    let go = g.not_over in
    ⊎_elim (λ (l : y < z). let h = new_year_later y z l in omega arith)
    (λ (l : z ≤ y).
    ⊎_elim (λ (m : z < y). let h = new_year_later z y m in omega arith)
    (λ (m : y ≤ z). omega arith)
    (cases_lt z y))
    (cases_lt y z)

-- a real date: its year is one of the calendar, and the year has its day
record Real (y m d : ℕ) : Type 0 where
  pub year_from : 1 ≤ y
  pub year_to : y ≤ 9999
  pub has : Has (month_lengths y) m d

real_true : (y m d : ℕ) → real y m d ≡ true → Real y m d
real_true y m d e =
    let p = and_parts _ _ e in
    let yp = and_parts _ _ p.0 in
    let q = and_parts _ _ p.1 in
    let mp = and_parts _ _ q.0 in
    let dp = and_parts _ _ q.1 in
    record {
      year_from = leb-true _ _ yp.0;
      year_to = leb-true _ _ yp.1;
      has = record {
        place_from = leb-true _ _ mp.0;
        place_to = leb-true _ _ mp.1;
        day_from = leb-true _ _ dp.0;
        day_to = leb-true _ _ dp.1;
      };
    }

true_real : (y m d : ℕ) → Real y m d → real y m d ≡ true
true_real y m d h = grind (arith, nat_tests)

-- the date is real, and n is its day
pub record Dated (n y m d : ℕ) : Type 0 where
  pub year : InYear n y
  pub falls : Falls (month_lengths y) (n - new_year y) m d

-- a real date is a day of its year
pub dated : (y m d n : ℕ) → day_of_date y m d ≡ Some n → Dated n y m d
dated y m d n e =
    ⊎_elim
    (λ (t : real y m d ≡ true).
    let h = real_true y m d t in
    let yf = h.year_from in
    let s = sym (cond-true (real y m d) (Some (day_number y m d)) None t) ∙ e in
    let i : day_number y m d ≡ n = cc in
    let f : Falls (month_lengths y) (n - new_year y) m d = record { has = h.has; after = omega arith } in
    let w = falls_within (month_lengths y) (n - new_year y) m d f in
    let x = next_year y yf in
    record {
      year = record { year_from = yf; year_to = h.year_to; begun = omega arith; not_over = omega arith };
      falls = f;
    })
    (λ (t : real y m d ≡ false).
    let s = sym (cond-false (real y m d) (Some (day_number y m d)) None t) ∙ e in cc)
    (cases_Bool (real y m d))

-- and a day of a year has a date
pub date : (y m d n : ℕ) → Dated n y m d → day_of_date y m d ≡ Some n
date y m d n h =
    let yf = h.year.year_from in
    let t = true_real y m d (record { year_from = yf; year_to = h.year.year_to; has = h.falls.has }) in
    let b = h.year.begun in
    let f = h.falls.after in
    let i : day_number y m d ≡ n = omega arith in
    cond-true (real y m d) (Some (day_number y m d)) None t ∙ ap Some i

-- a day has one date only
dated_once : (n y m d z p e : ℕ) → Dated n y m d → Dated n z p e → (y ≡ z) × (m ≡ p) × (d ≡ e)
dated_once n y m d z p e f g =
    let same = year_once n y z f.year g.year in
    let g' = rw (sym same) at g.falls in
    let once = falls_once (month_lengths y) (n - new_year y) m d p e f.falls g' in
    (same, once.0, once.1)

-- the answers of the way back
pub date_of_some : (n y m d : ℕ) → Dated n y m d → DateOf n (Some (y, m, d))
date_of_some n y m d h = record {
  right = λ z p e s.
      let t : ◌≡◌ {A = ℕ × ℕ × ℕ} (y, m, d) (z, p, e) = cc in
      subst (λ (t : ℕ × ℕ × ℕ). day_of_date t.0 t.1 t.2 ≡ Some n) t (date y m d n h);
  only = λ z p e s.
      let once = dated_once n y m d z p e h (dated z p e n s) in
      let t0 = once.0 in
      let t1 = once.1 in
      let t2 = once.2 in
      cc;
}

pub date_of_none : (n : ℕ) → ((y : ℕ) → InYear n y → ⊥) → DateOf n None
date_of_none n h = record {
  right = λ y m d s. cc;
  only = λ y m d s. absurd (h y (dated y m d n s).year);
}

-- no month has more than 31 days
months_most : (y : ℕ) → AllByRecursion (λ n. n ≤ 31) (month_lengths y)
months_most y = search rules

-- how large the numbers of a date can be
pub date_bounds : (y m d n : ℕ) → day_of_date y m d ≡ Some n → (y ≤ 9999) × (m ≤ 99) × (d ≤ 99)
date_bounds y m d n e =
    let h = dated y m d n e in
    let from = h.falls.has.place_from in
    let to = h.falls.has.place_to in
    let day = h.falls.has.day_to in
    let most = All-get_or (λ n. n ≤ 31) (month_lengths y) (m - 1) 0 (omega arith) (months_most y) in
    (h.year.year_to, omega arith, omega arith)
