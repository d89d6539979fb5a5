-- Bounds of the days on which Hebrew years begin.
use Rattle.std.specs.Prelude.{ℕ, ◌+◌, ◌-◌, ◌*◌, ◌%◌, ◌<◌, ◌≤◌, cond, ◌==◌, nat_lt}
use Rattle.std.proofs.Common.{arith}
use Rattle.std.proofs.lemmas.Bool.{cond_both}
use Rattle.calendars.specs.Hebrew.{months_before, moon_day, postponed, elapsed, correction, new_year}

postponed_bounds : (t : ℕ) → (t ≤ postponed t) × (postponed t ≤ t + 1)
postponed_bounds t =
    cond_both (nat_lt (3 * (t + 1) % 7) 3) (t + 1) t (λ x. (t ≤ x) × (x ≤ t + 1)) (λ _. (omega arith, omega arith)) (λ _. (omega arith, omega arith))

correction_bound : (a b c : ℕ) → correction a b c ≤ 2
correction_bound a b c =
    cond_both (c - b == 356) 2 (cond (b - a == 382) 1 0) (λ x. x ≤ 2) (λ _. omega arith)
    (λ _. cond_both (b - a == 382) 1 0 (λ x. x ≤ 2) (λ _. omega arith) (λ _. omega arith))

elapsed_bounds : (y : ℕ) → (moon_day (months_before y) ≤ elapsed y) × (elapsed y ≤ moon_day (months_before y) + 1)
elapsed_bounds y = postponed_bounds (moon_day (months_before y))

months_next : (y : ℕ) → 1 ≤ y → months_before y + 12 ≤ months_before (y + 1)
months_next y h = omega arith

moon_next : (m n : ℕ) → m + 12 ≤ n → moon_day m + 354 ≤ moon_day n
moon_next m n h = omega arith

elapsed_next : (y : ℕ) → 1 ≤ y → elapsed y + 353 ≤ elapsed (y + 1)
elapsed_next y h =
    let a = elapsed_bounds y in
    let b = elapsed_bounds (y + 1) in
    let c = moon_next (months_before y) (months_before (y + 1)) (months_next y h) in
    omega arith

new_year_bounds : (y : ℕ) → (elapsed y - 1373427 ≤ new_year y) × (new_year y ≤ elapsed y + 2 - 1373427)
new_year_bounds y = let h = correction_bound (elapsed (y - 1)) (elapsed y) (elapsed (y + 1)) in (omega arith, omega arith)

pub new_year_next : (y : ℕ) → 1 ≤ y → new_year y ≤ new_year (y + 1)
new_year_next y h =
    let a = new_year_bounds y in
    let b = new_year_bounds (y + 1) in
    let c = elapsed_next y h in
    omega arith

months_below : (y : ℕ) → y ≤ 5658 → months_before y ≤ 69968
months_below y h = omega arith

moon_below : (m : ℕ) → m ≤ 69968 → moon_day m ≤ 2066200
moon_below m h = omega arith

-- an early year begins too early
pub early : (y : ℕ) → y < 5659 → new_year y < 693000
early y h =
    let a = new_year_bounds y in
    let b = elapsed_bounds y in
    let c = moon_below (months_before y) (months_below y (omega arith)) in
    omega arith

months_above : (y : ℕ) → 5963 ≤ y → 73740 ≤ months_before y
months_above y h = omega arith

moon_above : (m : ℕ) → 73740 ≤ m → 2177580 ≤ moon_day m
moon_above m h = omega arith

-- a late year begins too late
pub late : (y : ℕ) → 5962 < y → 804001 < new_year y
late y h =
    let a = new_year_bounds y in
    let b = elapsed_bounds y in
    let c = moon_above (months_before y) (months_above y (omega arith)) in
    omega arith
