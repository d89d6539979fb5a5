-- What the lengths of a year's months say of its days: sums of months, and that each day falls in just one place.
use Rattle.std.proofs.Common.{◌≡◌, ℕ, zero, suc, ◌+◌, ◌-◌, ◌<◌, ◌≤◌, List, [], ◌∷◌, length, get_or, take, sym, ap, ◌∙◌, ⊎_elim, not-suc-le-zero, arith}
use Rattle.std.proofs.lemmas.List.{take_all, get_or_past}
use Rattle.std.proofs.lemmas.List.Sums.{sum_by-cons, sum_by_more}
use Rattle.std.proofs.lemmas.Bool.{cases_lt}
use Rattle.days.specs.Months.{total, before, length_at, Falls}

-- one month more
pub total_more : (xs : List ℕ) (i : ℕ) → total (take (i + 1) xs) ≡ total (take i xs) + get_or xs i 0
total_more xs i =
    ⊎_elim (λ (h : i < length xs). sum_by_more (λ n. n) xs i 0 h)
    (λ (h : length xs ≤ i).
    let all = ap total (take_all i xs h ∙ sym (take_all (i + 1) xs (omega arith))) in
    let past = get_or_past xs i 0 h in
    omega arith)
    (cases_lt i (length xs))

-- fewer months have no more days
pub total_mono : (xs : List ℕ) (i k : ℕ) → total (take i xs) ≤ total (take (i + k) xs)
total_mono xs i zero = let e : i + 0 ≡ i = omega arith in rw e (omega arith)
total_mono xs i (suc k) =
    let e : i + suc k ≡ i + k + 1 = omega arith in
    let h = total_mono xs i k in
    let t = total_more xs (i + k) in
    rw e (omega arith)

-- the month at place p, by the days before it and before the next
pub before_next : (xs : List ℕ) (p : ℕ) → 1 ≤ p → before xs (p + 1) ≡ before xs p + length_at xs p
before_next xs p h =
    let e : p + 1 - 1 ≡ p - 1 + 1 = omega arith in
    rw e (total_more xs (p - 1))

-- a later month begins after an earlier one has ended
pub before_later : (xs : List ℕ) (p q : ℕ) → 1 ≤ p → p < q → before xs p + length_at xs p ≤ before xs q
before_later xs p q h k =
    let more = total_more xs (p - 1) in
    let m = total_mono xs (p - 1 + 1) (q - 1 - p) in
    let e : p - 1 + 1 + (q - 1 - p) ≡ q - 1 = omega arith in
    let m' = rw e at m in
    omega arith

-- a day that the year has comes before the year is over
pub falls_within : (xs : List ℕ) (n p d : ℕ) → Falls xs n p d → n < total xs
falls_within xs n p d f =
    let fp = f.has.place_from in
    let lp = f.has.place_to in
    let fd = f.has.day_from in
    let ld = f.has.day_to in
    let s = before_later xs p (length xs + 1) fp (omega arith) in
    let e : length xs + 1 - 1 ≡ length xs = omega arith in
    let s' = rw (e, take_all (length xs) xs (omega arith)) at s in
    omega (arith, f.after)

-- a day falls in one place only
pub falls_once : (xs : List ℕ) (n p d q e : ℕ) → Falls xs n p d → Falls xs n q e → (p ≡ q) × (d ≡ e)
falls_once xs n p d q e f g =
    let fa = f.after in
    let ga = g.after in
    let fd = f.has.day_from in
    let gd = g.has.day_from in
    let ft = f.has.day_to in
    let gt = g.has.day_to in
    let same : p ≡ q =
    ⊎_elim (λ (l : p < q). let h = before_later xs p q f.has.place_from l in omega arith)
    (λ (l : q ≤ p).
    ⊎_elim (λ (m : q < p). let h = before_later xs q p g.has.place_from m in omega arith)
    (λ (m : p ≤ q). omega arith)
    (cases_lt q p))
    (cases_lt p q) in
    let b : before xs p ≡ before xs q = ap (before xs) same in
    (same, omega arith)

-- a day before the year is over falls somewhere
pub falls_somewhere : (xs : List ℕ) (n : ℕ) → n < total xs → (p : ℕ) × (d : ℕ) × Falls xs n p d
falls_somewhere [] n h = absurd (not-suc-le-zero h)
falls_somewhere (x ∷ xs) n h =
    let first = sum_by-cons (λ n. n) x xs in
    ⊎_elim
    (λ (l : n < x).
    (1, n + 1, record { has = record { place_from = omega arith; place_to = omega arith; day_from = omega arith; day_to = omega arith }; after = omega arith }))
    (λ (l : x ≤ n).
    let f = falls_somewhere xs (n - x) (omega arith) in
    let has = f.2.has in
    let pf = has.place_from in
    let pt = has.place_to in
    let e : f.0 + 1 - 1 ≡ suc (f.0 - 1) = omega arith in
    let after = f.2.after in
    let further = sum_by-cons (λ n. n) x (take (f.0 - 1) xs) in (
      f.0 + 1,
      f.1,
      record {
        has = record { place_from = omega arith; place_to = omega arith; day_from = has.day_from; day_to = rw e has.day_to };
        after = rw e (omega arith);
      },
    ))
    (cases_lt n x)
