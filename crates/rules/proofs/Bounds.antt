-- Where the days of a period lie, over a lawful almanac.
-- The library has no calendars and no periods, so these lemmas are our own.
use Rattle.std.proofs.Common.{◌≡◌, ℕ, ◌+◌, ◌-◌, ◌<◌, ◌≤◌, Bool, true, cond, not, ◌&&◌, ◌||◌, eqb, ltb, leb, length, refl, ⊎_elim, arith}
use Rattle.std.proofs.lemmas.Bool.{cases_lt, and_parts, leb-true, ltb-true, eqb-true, false≢true}
use Rattle.std.proofs.lemmas.List.{take_all}
use Rattle.days.proofs.Totals.{before_later}
use Rattle.calendar.specs.declared.sheet.MonthCode.{MonthCode}
use Rattle.calendar.specs.declared.sheet.Sheet.{Sheet}
use Rattle.calendar.specs.Sheets.{Almanac, Answered, lengths_of, days_of, code_at}
use Rattle.calendar.specs.Laws.{Lawful}
use Rattle.rules.specs.declared.checked.Rule.{Rule}
use Rattle.rules.specs.declared.parts.ByDay.{ByDay}
use Rattle.rules.specs.declared.parts.Position.{Position}
use Rattle.rules.specs.declared.parts.Position.TheVariants.{FromStart, FromEnd}
use Rattle.rules.specs.declared.parts.Skip.{Skip}
use Rattle.rules.specs.declared.parts.Skip.TheVariants.{Omit, Backward, Forward}
use Rattle.rules.specs.Parts.{no_items}
use Rattle.rules.specs.declared.period.Stretch.{Stretch}
use Rattle.rules.specs.Meaning.{Date, inside, whole_year, month_at, beyond, value_gives, weekday_gives, on_weekday, in_position, by_month, by_month_day, by_day, weekday_passes, code_passes, code_gives, chosen, some_month, month_days_give, weekdays_give, own_day_gives, year_gives, month_gives, week_gives, day_gives}
use Rattle.rules.proofs.Searching.{cond_ways, below_found, of_some, of_any}
use Rattle.rules.proofs.Dated.{inside_bounds, lengths_count}
use Rattle.rules.proofs.Fitting.{number_of, values_some}

-- n is a day of the stretch or the day after it
pub record Near (m : Stretch) (n : ℕ) : Type 0 where
  pub from : m.from ≤ n
  pub to : n ≤ m.from + m.size

-- n is a day of an answered year or the day after it
pub record OfYear (a : Almanac) (y n : ℕ) : Type 0 where
  pub answered : Answered a y
  pub from : (a.sheet y).first ≤ n
  pub to : n ≤ (a.sheet y).first + days_of (a.sheet y)

-- n is a day of a month on the year's sheet or the day after it
pub record OfMonth (a : Almanac) (y p n : ℕ) : Type 0 where
  pub place_to : p ≤ (a.sheet y).months
  pub answered : Answered a y
  pub near : Near (month_at (a.sheet y) p) n

-- ── values and weekdays in a stretch ──

beyond_near : (k : Skip) (m : Stretch) (n : ℕ) → 1 ≤ m.size → beyond k m n ≡ true → Near m n
beyond_near Omit m n h e = absurd (false≢true e)
beyond_near Backward m n h e = let i = eqb-true (n + 1) (m.from + m.size) e in record { from = omega arith; to = omega arith }
beyond_near Forward m n h e = let i = eqb-true n (m.from + m.size) e in record { from = omega arith; to = omega arith }

pub value_near : (k : Skip) (m : Stretch) (n : ℕ) (v : Position) → 1 ≤ number_of v → 1 ≤ m.size → value_gives k m n v ≡ true → Near m n
value_near k m n (FromStart v) g h e =
    ⊎_elim
    (λ w.
    let le = leb-true v m.size w.0 in
    let i = eqb-true (n + 1) (m.from + v) w.1 in
    record { from = omega arith; to = omega arith })
    (λ w. beyond_near k m n h w.1)
    (cond_ways (leb v m.size) (eqb (n + 1) (m.from + v)) (beyond k m n) e)
value_near k m n (FromEnd v) g h e =
    let p = and_parts (leb v m.size) (eqb (n + v) (m.from + m.size)) e in
    let le = leb-true v m.size p.0 in
    let i = eqb-true (n + v) (m.from + m.size) p.1 in
    record { from = omega arith; to = omega arith }

pub weekday_inside : (m : Stretch) (n : ℕ) (b : ByDay) → weekday_gives m n b ≡ true → (m.from ≤ n) × (n < m.from + m.size)
weekday_inside m n b e =
    inside_bounds m n (and_parts (inside m n) (on_weekday n b && in_position m n b.position) e).0

pub month_days_near : (r : Rule) (m : Stretch) (n : ℕ) → 1 ≤ m.size → month_days_give r m n ≡ true → Near m n
month_days_near r m n h e =
    of_some (Near m n) (λ v. (1 ≤ number_of v) × (number_of v ≤ 31)) (value_gives r.parts.skip m n) (λ v q. value_near r.parts.skip m n v q.0 h) (by_month_day r) (values_some r) e

pub weekdays_inside : (r : Rule) (m : Stretch) (n : ℕ) → weekdays_give r m n ≡ true → (m.from ≤ n) × (n < m.from + m.size)
weekdays_inside r m n e =
    of_any ((m.from ≤ n) × (n < m.from + m.size)) (weekday_gives m n) (weekday_inside m n) (by_day r) e

weekdays_near : (r : Rule) (m : Stretch) (n : ℕ) → weekdays_give r m n ≡ true → Near m n
weekdays_near r m n e = let w = weekdays_inside r m n e in record { from = w.0; to = omega arith }

pub own_day_near : (r : Rule) (t : Date) (m : Stretch) (n : ℕ) → 1 ≤ t.day → 1 ≤ m.size → own_day_gives r t m n ≡ true → Near m n
own_day_near r t m n g h e = value_near r.parts.skip m n (FromStart t.day) g h e

-- ── years and months ──

-- the place of a month that passes
pub month_found : (s : Sheet) (f : ℕ → Bool) → some_month s f ≡ true → (p : ℕ) × (1 ≤ p) × (p ≤ s.months) × (f p ≡ true)
month_found s f e =
    let w = below_found (λ i. f (i + 1)) s.months e in
    let lt = w.1 in
    (w.0 + 1, omega arith, omega arith, w.2)

module _ (a : Almanac) (l : Lawful a) where
  pub size_some : (y p : ℕ) → 1 ≤ p → p ≤ (a.sheet y).months → 1 ≤ (month_at (a.sheet y) p).size
  size_some y p h k = (l.month_days y p (omega arith) h k).0

  -- a month ends when its year does, or before
  pub month_end : (y p : ℕ) → 1 ≤ p → p ≤ (a.sheet y).months → (month_at (a.sheet y) p).from + (month_at (a.sheet y) p).size ≤ (a.sheet y).first + days_of (a.sheet y)
  month_end y p h k =
      let ls = lengths_of (a.sheet y) in
      let c = lengths_count a l y in
      let b = before_later ls p (length ls + 1) h (omega arith) in
      let e : length ls + 1 - 1 ≡ length ls = omega arith in
      let b' = rw (e, take_all (length ls) ls (omega arith)) at b in
      omega arith

  month_to_year : (y p n : ℕ) → 1 ≤ p → p ≤ (a.sheet y).months → Near (month_at (a.sheet y) p) n → OfYear a y n
  month_to_year y p n h k w =
      let e = month_end y p h k in
      let f = w.from in
      let t = w.to in
      record { answered = omega arith; from = omega arith; to = omega arith }

  in_a_month : (y n : ℕ) (f g : ℕ → Bool) → ((p : ℕ) → 1 ≤ p → p ≤ (a.sheet y).months → g p ≡ true → Near (month_at (a.sheet y) p) n) → some_month (a.sheet y) (λ p. f p && g p) ≡ true → OfYear a y n
  in_a_month y n f g h e =
      let w = month_found (a.sheet y) (λ p. f p && g p) e in
      month_to_year y w.0 n w.1 w.2 (h w.0 w.1 w.2 (and_parts (f w.0) (g w.0) w.3).1)

  in_whole_year : (y n : ℕ) → (a.sheet y).first ≤ n → n < (a.sheet y).first + days_of (a.sheet y) → OfYear a y n
  in_whole_year y n h k =
      ⊎_elim (λ (f : 0 < (a.sheet y).months). record { answered = f; from = h; to = omega arith })
      (λ (f : (a.sheet y).months ≤ 0).
      let e : (a.sheet y).months ≡ 0 = omega arith in
      let z : days_of (a.sheet y) ≡ 0 = rw e refl in
      absurd (let u : ⊥ = omega arith in u))
      (cases_lt 0 (a.sheet y).months)

  pub year_bounds : (r : Rule) (t : Date) (own : MonthCode) (y n : ℕ) → 1 ≤ t.day → year_gives r t own (a.sheet y) n ≡ true → OfYear a y n
  year_bounds r t own y n d e =
      let s = a.sheet y in
      ⊎_elim
      (λ v.
      in_a_month y n (λ p. no_items (by_month r) || chosen r s p) (λ p. month_days_give r (month_at s p) n) (λ p h k. month_days_near r (month_at s p) n (size_some y p h k))
      (and_parts (weekday_passes r n) _ v.1).1)
      (λ v.
      ⊎_elim
      (λ w.
      ⊎_elim (λ x. let b = weekdays_inside r (whole_year s) n x.1 in in_whole_year y n b.0 b.1)
      (λ x. in_a_month y n (chosen r s) (λ p. weekdays_give r (month_at s p) n) (λ p h k. weekdays_near r (month_at s p) n) x.1)
      (cond_ways (no_items (by_month r)) _ _ w.1))
      (λ w.
      in_a_month y n (λ p. cond (no_items (by_month r)) (code_gives r.parts.skip s own p) (chosen r s p)) (λ p. own_day_gives r t (month_at s p) n)
      (λ p h k. own_day_near r t (month_at s p) n d (size_some y p h k))
      w.1)
      (cond_ways (not (no_items (by_day r))) _ _ v.1))
      (cond_ways (not (no_items (by_month_day r))) _ _ e)

  pub month_bounds : (r : Rule) (t : Date) (y p n : ℕ) → 1 ≤ t.day → 1 ≤ p → month_gives r t (a.sheet y) p n ≡ true → OfMonth a y p n
  month_bounds r t y p n d h e =
      let s = a.sheet y in
      let m = month_at s p in
      let u = and_parts (leb p s.months && code_passes r (code_at s p)) _ e in
      let k = leb-true p s.months (and_parts (leb p s.months) (code_passes r (code_at s p)) u.0).0 in
      let some = size_some y p h k in
      let near : Near m n =
      ⊎_elim (λ v. month_days_near r m n some (and_parts (weekday_passes r n) (month_days_give r m n) v.1).1)
      (λ v.
      ⊎_elim (λ w. weekdays_near r m n w.1) (λ w. own_day_near r t m n d some w.1) (cond_ways (not (no_items (by_day r))) _ _ v.1))
      (cond_ways (not (no_items (by_month_day r))) _ _ u.1) in
      record { place_to = k; answered = omega arith; near = near }

-- ── weeks and days ──

pub week_bounds : (a : Almanac) (r : Rule) (start b n : ℕ) → week_gives a r start b n ≡ true → (b ≤ n) × (n < b + 7)
week_bounds a r start b n e =
    let p = and_parts (leb b n) (ltb n (b + 7)) (and_parts (leb b n && ltb n (b + 7)) _ e).0 in
    (leb-true b n p.0, ltb-true n (b + 7) p.1)

pub day_bounds : (a : Almanac) (r : Rule) (d n : ℕ) → day_gives a r d n ≡ true → n ≡ d
day_bounds a r d n e = eqb-true n d (and_parts (eqb n d) _ e).0
