-- Months that run on through the years: where each stands, and that a later one begins where an earlier one ends, or later.
-- The library has no calendars and no periods, so these lemmas are our own.
use Rattle.std.proofs.Common.{◌≡◌, ℕ, zero, suc, ◌+◌, ◌-◌, ◌<◌, ◌≤◌, ltb, length, take, sym, ap, ◌∙◌, subst, ⊎_elim, arith}
use Rattle.std.proofs.lemmas.List.{take_all}
use Rattle.std.proofs.lemmas.Bool.{cases_lt, cond_both, ltb-true, ltb-false}
use Rattle.days.specs.Months.{before, total}
use Rattle.days.proofs.Totals.{before_next}
use Rattle.calendar.specs.Sheets.{Almanac, Answered, lengths_of, days_of}
use Rattle.calendar.specs.Laws.{Lawful}
use Rattle.calendar.proofs.Years.{between}
use Rattle.rules.specs.Meaning.{month_at, next_month, month_after}
use Rattle.rules.proofs.Dated.{lengths_count}
use Rattle.rules.proofs.Bounds.{size_some}

-- i months after the k-th month after m
pub months_further : (a : Almanac) (m : ℕ × ℕ) (k i : ℕ) → month_after a m (k + i) ≡ month_after a (month_after a m k) i
months_further a m k zero = let e : k + 0 ≡ k = omega arith in ap (month_after a m) e
months_further a m k (suc i) =
    let e : k + suc i ≡ suc (k + i) = omega arith in
    ap (month_after a m) e ∙ ap (next_month a) (months_further a m k i)

-- where a month begins and where it ends
abbrev pub begins : Almanac → ℕ × ℕ → ℕ
begins a m = (month_at (a.sheet m.0) m.1).from

abbrev pub ends : Almanac → ℕ × ℕ → ℕ
ends a m = (month_at (a.sheet m.0) m.1).from + (month_at (a.sheet m.0) m.1).size

-- if the month n is of an answered year, so is m, and m ends where n begins
abbrev pub Joins : Almanac → ℕ × ℕ → ℕ × ℕ → Type 0
Joins a m n = Answered a n.0 → Answered a m.0 × (ends a m ≡ begins a n)

pub same_year_joins : (a : Almanac) (y p : ℕ) → 1 ≤ p → Joins a (y, p) (y, p + 1)
same_year_joins a y p h q = let b = before_next (lengths_of (a.sheet y)) p h in (q, omega arith)

-- a place from 1 on, on the year's sheet if the year is answered; and the year is y0 or later
pub record Standing (a : Almanac) (y0 : ℕ) (m : ℕ × ℕ) : Type 0 where
  pub place_from : 1 ≤ m.1
  pub place_to : Answered a m.0 → m.1 ≤ (a.sheet m.0).months
  pub year_from : y0 ≤ m.0

module _ (a : Almanac) (l : Lawful a) where
  -- a year's last month ends when the year does
  pub last_month_end : (y p : ℕ) → 1 ≤ p → p ≡ (a.sheet y).months → ends a (y, p) ≡ (a.sheet y).first + days_of (a.sheet y)
  last_month_end y p h e =
      let ls = lengths_of (a.sheet y) in
      let c = lengths_count a l y in
      let b = before_next ls p h in
      let i : p + 1 - 1 ≡ length ls = omega arith in
      let whole : before ls (p + 1) ≡ total ls = ap (λ (k : ℕ). total (take k ls)) i ∙ ap total (take_all (length ls) ls (omega arith)) in
      omega arith

  pub next_year_joins : (y p : ℕ) → Answered a y → 1 ≤ p → p ≡ (a.sheet y).months → Joins a (y, p) (y + 1, 1)
  next_year_joins y p f h e q =
      let j = l.meets y f q in
      let w = last_month_end y p h e in
      (f, omega arith)

  module _ (y0 p0 : ℕ) (h0 : Answered a y0) (f : 1 ≤ p0) (g : p0 ≤ (a.sheet y0).months) where
    -- the k-th month after the one at the place p0 of the year y0
    abbrev pub at_month : ℕ → ℕ × ℕ
    at_month k = month_after a (y0, p0) k

    pub month_stands : (k : ℕ) → Standing a y0 (at_month k)
    month_stands zero = record { place_from = f; place_to = λ _. g; year_from = omega arith }
    month_stands (suc k) =
        let m = at_month k in
        let u = month_stands k in
        let b = u.year_from in
        cond_both (ltb m.1 (a.sheet m.0).months) (m.0, m.1 + 1) (m.0 + 1, 1) (Standing a y0)
        (λ e.
        let lt = ltb-true m.1 (a.sheet m.0).months e in
        record { place_from = omega arith; place_to = λ _. omega arith; year_from = b })
        (λ e. record { place_from = omega arith; place_to = λ q. omega arith; year_from = omega arith })

    -- the next month is of the same year or of the next
    pub next_year_near : (k : ℕ) → ((at_month k).0 ≤ (at_month (suc k)).0) × ((at_month (suc k)).0 ≤ (at_month k).0 + 1)
    next_year_near k =
        let m = at_month k in
        cond_both {A = ℕ × ℕ} (ltb m.1 (a.sheet m.0).months) (m.0, m.1 + 1) (m.0 + 1, 1) (λ n. (m.0 ≤ n.0) × (n.0 ≤ m.0 + 1))
        (λ e. (omega arith, omega arith))
        (λ e. (omega arith, omega arith))

    pub year_rises : (k i : ℕ) → (at_month k).0 ≤ (at_month (k + i)).0
    year_rises k zero = let e : k + 0 ≡ k = omega arith in rw e (omega arith)
    year_rises k (suc i) =
        let e : k + suc i ≡ suc (k + i) = omega arith in
        let u = year_rises k i in
        let v = next_year_near (k + i) in
        rw e (omega arith)

    -- a month ends where the next begins
    pub month_joins : (k : ℕ) → Joins a (at_month k) (at_month (suc k))
    month_joins k =
        let m = at_month k in
        let u = month_stands k in
        cond_both (ltb m.1 (a.sheet m.0).months) (m.0, m.1 + 1) (m.0 + 1, 1) (Joins a m)
        (λ e. same_year_joins a m.0 m.1 u.place_from)
        (λ e q.
        let ans = between a l y0 m.0 (m.0 + 1) h0 q u.year_from (omega arith) in
        let ge = ltb-false m.1 (a.sheet m.0).months e in
        let le = u.place_to ans in
        next_year_joins m.0 m.1 ans u.place_from (omega arith) q)

    month_long : (k : ℕ) → Answered a (at_month k).0 → begins a (at_month k) + 1 ≤ ends a (at_month k)
    month_long k q =
        let u = month_stands k in
        let s = size_some a l (at_month k).0 (at_month k).1 u.place_from (u.place_to q) in
        omega arith

    abbrev Before : ℕ → ℕ → Type 0
    Before j k = Answered a (at_month j).0 × (ends a (at_month j) + (k - j) ≤ begins a (at_month (suc k)))

    at_once : (k : ℕ) → Answered a (at_month (suc k)).0 → Before k k
    at_once k q = let s = month_joins k q in (s.0, omega (arith, s.1))

    later : (j k : ℕ) → j ≤ k → Answered a (at_month (suc k)).0 → Before j k
    later j zero h q = let e : 0 ≡ j = omega arith in subst (λ (x : ℕ). Before x 0) e (at_once 0 q)
    later j (suc k) h q =
        ⊎_elim
        (λ (c : j < suc k).
        let s = month_joins (suc k) q in
        let i = later j k (omega arith) s.0 in
        let z = month_long (suc k) s.0 in
        (i.0, omega (arith, i.1, s.1)))
        (λ (c : suc k ≤ j). let e : suc k ≡ j = omega arith in subst (λ (x : ℕ). Before x (suc k)) e (at_once (suc k) q))
        (cases_lt j (suc k))

    -- a later month begins where an earlier one ends, and a day later for each month between
    pub later_month : (j k : ℕ) → j < k → Answered a (at_month k).0 → Answered a (at_month j).0 × (ends a (at_month j) + (k - j) ≤ begins a (at_month k) + 1)
    later_month j k h q =
        let i : k ≡ suc (k - 1) = omega arith in
        let w = later j (k - 1) (omega arith) (subst (λ (x : ℕ). Answered a (at_month x).0) i q) in
        let v = subst (λ (x : ℕ). ends a (at_month j) + (k - 1 - j) ≤ begins a (at_month x)) (sym i) w.1 in
        (w.0, omega arith)
