-- What the laws give of a lawful calendar's years: how far apart they begin, and that a day lies in one of them only.
-- The library has no laws of calendars.
use Rattle.std.proofs.Common.{◌≡◌, ℕ, zero, suc, ◌+◌, ◌-◌, ◌*◌, ◌<◌, ◌≤◌, ap, subst, ⊎_elim, arith, length-take}
use Rattle.std.proofs.lemmas.Bool.{cases_lt}
use Rattle.days.specs.Months.{Falls}
use Rattle.days.proofs.Totals.{falls_within, falls_once}
use Rattle.calendar.specs.Sheets.{Almanac, Answered, Within, Stands, lengths_of, days_of}
use Rattle.calendar.specs.Laws.{Lawful}

-- a date of a year is a place among its days
pub in_year : (a : Almanac) (n y p d : ℕ) → Stands a n y p d → Falls (lengths_of (a.sheet y)) (n - (a.sheet y).first) p d
in_year a n y p d s = let e = s.number in record { has = s.has; after = omega arith }

pub from_year : (a : Almanac) (n y p d : ℕ) → (a.sheet y).first ≤ n → Falls (lengths_of (a.sheet y)) (n - (a.sheet y).first) p d → Stands a n y p d
from_year a n y p d h f = let e = f.after in record { has = f.has; number = omega arith }

-- a day with a date lies in the date's year
pub stands_within : (a : Almanac) (n y p d : ℕ) → Stands a n y p d → Within a n y
stands_within a n y p d s =
    let ls = lengths_of (a.sheet y) in
    let w = falls_within ls (n - (a.sheet y).first) p d (in_year a n y p d s) in
    let e = s.number in
    let pf = s.has.place_from in
    let pt = s.has.place_to in
    let m = length-take (a.sheet y).months (a.sheet y).lengths in
    record { answered = omega arith; from = omega arith; to = omega arith }

module _ (a : Almanac) (l : Lawful a) where
  -- a year has at most thirteen months
  pub months_most : (y : ℕ) → (a.sheet y).months ≤ 13
  months_most y =
      ⊎_elim (λ (h : 0 < (a.sheet y).months). ⊎_elim (λ e. omega arith) (λ e. omega arith) (l.months y h))
      (λ (h : (a.sheet y).months ≤ 0). omega arith)
      (cases_lt 0 (a.sheet y).months)

  -- the answered years are consecutive
  pub between : (x y z : ℕ) → Answered a x → Answered a z → x ≤ y → y ≤ z → Answered a y
  between x y z f g h k =
      let s = l.only x f in
      let t = l.only z g in
      l.answers y (omega arith) (omega arith)

  -- k years on, a year begins between 350 k and 385 k days later
  pub apart : (y k : ℕ) → Answered a y → Answered a (y + k) → ((a.sheet y).first + 350 * k ≤ (a.sheet (y + k)).first) × ((a.sheet (y + k)).first ≤ (a.sheet y).first + 385 * k)
  apart y zero f g = let e : y + 0 ≡ y = omega arith in rw e (omega arith, omega arith)
  apart y (suc k) f g =
      let m = between y (y + k) (y + suc k) f g (omega arith) (omega arith) in
      let i = apart y k f m in
      let e : y + suc k ≡ y + k + 1 = omega arith in
      let g' = subst (Answered a) e g in
      let j = l.meets (y + k) m g' in
      let d = l.year_days (y + k) m in
      rw e (omega arith, omega arith)

  -- the same of two years by their numbers
  pub apart_by : (y z : ℕ) → Answered a y → Answered a z → y ≤ z → ((a.sheet y).first + 350 * (z - y) ≤ (a.sheet z).first) × ((a.sheet z).first ≤ (a.sheet y).first + 385 * (z - y))
  apart_by y z f g h =
      let e : z ≡ y + (z - y) = omega arith in
      let g' = subst (Answered a) e g in
      let i = apart y (z - y) f g' in
      let b : (a.sheet z).first ≡ (a.sheet (y + (z - y))).first = ap (λ (x : ℕ). (a.sheet x).first) e in
      (omega arith, omega arith)

  -- a later year begins after an earlier one has ended
  pub after_end : (y z : ℕ) → Answered a y → Answered a z → y < z → (a.sheet y).first + days_of (a.sheet y) ≤ (a.sheet z).first
  after_end y z f g h =
      let m = between y (y + 1) z f g (omega arith) (omega arith) in
      let j = l.meets y f m in
      let i = apart_by (y + 1) z m g (omega arith) in
      omega arith

  -- a day lies in one year only
  pub one_year : (n y z : ℕ) → Within a n y → Within a n z → y ≡ z
  one_year n y z v w =
      let vf = v.from in
      let vt = v.to in
      let wf = w.from in
      let wt = w.to in
      ⊎_elim (λ (h : y < z). let e = after_end y z v.answered w.answered h in omega arith)
      (λ (h : z ≤ y).
      ⊎_elim (λ (k : z < y). let e = after_end z y w.answered v.answered k in omega arith)
      (λ (k : y ≤ z). omega arith)
      (cases_lt z y))
      (cases_lt y z)

  -- a day has one date only
  pub one_date : (n y p d z q e : ℕ) → Stands a n y p d → Stands a n z q e → (y ≡ z) × (p ≡ q) × (d ≡ e)
  one_date n y p d z q e s t =
      let i = one_year n y z (stands_within a n y p d s) (stands_within a n z q e t) in
      let f = subst (λ (x : ℕ). Falls (lengths_of (a.sheet x)) (n - (a.sheet x).first) p d) i (in_year a n y p d s) in
      let u = falls_once (lengths_of (a.sheet z)) (n - (a.sheet z).first) p d q e f (in_year a n z q e t) in
      (i, u.0, u.1)
