-- The periods of any rule move on: where each begins, and that its days come no earlier and those of the periods before
-- it no later.
-- The library has no calendars and no periods, so these lemmas are our own.
use Rattle.std.proofs.Common.{◌≡◌, ℕ, ◌+◌, ◌*◌, ◌<◌, ◌≤◌, Bool, true, leb, subst, ⊎_elim, mul-le-mul_right, suc-mul, le-mul_of_pos_right, arith, lit<}
use Rattle.std.proofs.lemmas.Bool.{cases_lt, and_parts, leb-true}
use Rattle.days.specs.Numbers.{in_range, remainder}
use Rattle.days.specs.declared.weekday.Weekday.{Weekday}
use Rattle.days.specs.declared.weekday.Weekday.TheVariants.{Sunday, Monday, Tuesday, Wednesday, Thursday, Friday, Saturday}
use Rattle.calendar.specs.Sheets.{Almanac, Answered, Stands, code_at}
use Rattle.calendar.specs.Laws.{Lawful}
use Rattle.calendar.proofs.Years.{stands_within, between, apart_by, after_end}
use Rattle.rules.specs.declared.checked.Rule.{Rule}
use Rattle.rules.specs.declared.parts.Frequency.{Frequency}
use Rattle.rules.specs.declared.parts.Frequency.TheVariants.{Yearly, Monthly, Weekly, Daily}
use Rattle.rules.specs.declared.period.Period.{Period}
use Rattle.rules.specs.declared.period.Period.TheVariants.{Year, Month, Week, Day}
use Rattle.rules.specs.Meaning.{Date, month_at, month_after, week_of, period_gives, period_of, period, counted_period}
use Rattle.rules.proofs.Dated.{lengths_count}
use Rattle.rules.proofs.Fitting.{interval_some}
use Rattle.rules.proofs.Bounds.{OfYear, OfMonth, year_bounds, month_bounds, week_bounds, day_bounds}
use Rattle.rules.proofs.Monthly.{begins, month_stands, later_month}

-- the almanac has the period
abbrev pub Present : Almanac → Period → Type 0
Present a (Year y) = Answered a y
Present a (Month y p) = Answered a y
Present a (Week b) = Unit {0}
Present a (Day d) = Unit {0}

-- the period's first day
abbrev pub first_day : Almanac → Period → ℕ
first_day a (Year y) = (a.sheet y).first
first_day a (Month y p) = (month_at (a.sheet y) p).from
first_day a (Week b) = b
first_day a (Day d) = d

-- the periods P, of which the k-th gives n if f k n
pub record Moves (a : Almanac) (start : ℕ) (P : ℕ → Period) (f : ℕ → ℕ → Bool) : Type 0 where
  -- a period that gives a day is there, and gives no day before its first
  pub present : (k n : ℕ) → f k n ≡ true → Present a (P k)
  pub from : (k n : ℕ) → f k n ≡ true → first_day a (P k) ≤ n
  -- before a period that is there, all are there and begin no later, and give no day after its first
  pub onward : (j k : ℕ) → j ≤ k → Present a (P k) → Present a (P j) × (first_day a (P j) ≤ first_day a (P k))
  pub up_to : (j k n : ℕ) → j < k → Present a (P k) → f j n ≡ true → n ≤ first_day a (P k)
  -- all but the first begin as many days after `start` as there are periods between, or later
  pub begins : (k : ℕ) → 0 < k → Present a (P k) → start + k ≤ first_day a (P k)

-- every i-th of them
pub every_ith : (a : Almanac) (start : ℕ) (P : ℕ → Period) (f : ℕ → ℕ → Bool) (i : ℕ) → 1 ≤ i → Moves a start P f → Moves a start (λ k. P (k * i)) (λ k n. f (k * i) n)
every_ith a start P f i h m =
    record {
      present = λ k n e. m.present (k * i) n e;
      from = λ k n e. m.from (k * i) n e;
      onward = λ j k le q. m.onward (j * i) (k * i) (mul-le-mul_right i le) q;
      up_to = λ j k n lt q e.
          let step = mul-le-mul_right i lt in
          let sm = suc-mul j i in
          m.up_to (j * i) (k * i) n (omega arith) q e;
      begins = λ k c q.
          let more = le-mul_of_pos_right k h in
          let w = m.begins (k * i) (omega arith) q in
          omega arith;
    }

remainder_small : (w : Weekday) → remainder w < 7
remainder_small Sunday = lit< tt
remainder_small Monday = lit< tt
remainder_small Tuesday = lit< tt
remainder_small Wednesday = lit< tt
remainder_small Thursday = lit< tt
remainder_small Friday = lit< tt
remainder_small Saturday = lit< tt

-- a day's week has the day among its seven
pub week_has : (w : Weekday) (n : ℕ) → 6 ≤ n → (week_of (remainder w) n ≤ n) × (n < week_of (remainder w) n + 7)
week_has w n g = let h = remainder_small w in (omega arith, omega arith)

module _ (a : Almanac) (l : Lawful a) (r : Rule) (start : ℕ) (t : Date) (ranged : in_range start ≡ true) (st : Stands a start t.year t.place t.day) where
  by_frequency : (q : Frequency) → Moves a start (period_of q a r start t) (λ k n. period_gives a r start t (period_of q a r start t k) n)
  by_frequency Yearly =
      let here = stands_within a start t.year t.place t.day st in
      let ans = here.answered in
      let own = code_at (a.sheet t.year) t.place in
      let of : (k n : ℕ) → period_gives a r start t (period_of Yearly a r start t k) n ≡ true → OfYear a (t.year + k) n =
      λ k n e. year_bounds a l r t own (t.year + k) n st.has.day_from e in
      record {
        present = λ k n e. (of k n e).answered;
        from = λ k n e. (of k n e).from;
        onward = λ j k le q.
            let ans' = between a l t.year (t.year + j) (t.year + k) ans q (omega arith) (omega arith) in
            let w = apart_by a l (t.year + j) (t.year + k) ans' q (omega arith) in
            (ans', omega arith);
        up_to = λ j k n lt q e.
            let o = of j n e in
            let to = o.to in
            let w = after_end a l (t.year + j) (t.year + k) o.answered q (omega arith) in
            omega arith;
        begins = λ k c q.
            let to = here.to in
            let most = l.year_days t.year ans in
            let v = after_end a l t.year (t.year + k) ans q (omega arith) in
            let w = apart_by a l t.year (t.year + k) ans q (omega arith) in
            omega arith;
      }
  by_frequency Monthly =
      let ans = (stands_within a start t.year t.place t.day st).answered in
      let c = lengths_count a l t.year in
      let pf = st.has.place_from in
      let pt = st.has.place_to in
      let le : t.place ≤ (a.sheet t.year).months = omega arith in
      let m : ℕ → ℕ × ℕ = month_after a (t.year, t.place) in
      let of : (k n : ℕ) → period_gives a r start t (period_of Monthly a r start t k) n ≡ true → OfMonth a (m k).0 (m k).1 n =
      λ k n e. month_bounds a l r t (m k).0 (m k).1 n st.has.day_from (month_stands a l t.year t.place ans pf le k).place_from e in
      record {
        present = λ k n e. (of k n e).answered;
        from = λ k n e. (of k n e).near.from;
        onward = λ j k at q.
            ⊎_elim
            (λ (lt : j < k).
            let w = later_month a l t.year t.place ans pf le j k lt q in
            (w.0, omega (arith, w.1)))
            (λ (ge : k ≤ j).
            let e : k ≡ j = omega arith in
            subst (λ (x : ℕ). Answered a (m x).0 × (begins a (m x) ≤ begins a (m k))) e (q, omega arith))
            (cases_lt j k);
        up_to = λ j k n lt q e.
            let to = (of j n e).near.to in
            let w = later_month a l t.year t.place ans pf le j k lt q in
            omega (arith, w.1);
        begins = λ k c q.
            let df = st.has.day_from in
            let dt = st.has.day_to in
            let e = st.number in
            let w = later_month a l t.year t.place ans pf le 0 k c q in
            omega (arith, w.1);
      }
  by_frequency Weekly =
      let low = leb-true 693596 start (and_parts (leb 693596 start) (leb start 803168) ranged).0 in
      let b = week_of (remainder r.parts.week_start) start in
      let here = week_has r.parts.week_start start (omega arith) in
      let of : (k n : ℕ) → period_gives a r start t (period_of Weekly a r start t k) n ≡ true → (b + 7 * k ≤ n) × (n < b + 7 * k + 7) =
      λ k n e. week_bounds a r start (b + 7 * k) n e in
      record {
        present = λ k n e. tt;
        from = λ k n e. (of k n e).0;
        onward = λ j k le q. (tt, omega arith);
        up_to = λ j k n lt q e. let u = of j n e in omega arith;
        begins = λ k c q. let u = here.1 in omega arith;
      }
  by_frequency Daily =
      record {
        present = λ k n e. tt;
        from = λ k n e. omega (arith, day_bounds a r (start + k) n e);
        onward = λ j k le q. (tt, omega arith);
        up_to = λ j k n lt q e. omega (arith, day_bounds a r (start + j) n e);
        begins = λ k c q. omega arith;
      }

  pub periods_move : Moves a start (period a r start t) (λ k n. period_gives a r start t (period a r start t k) n)
  periods_move = by_frequency r.parts.frequency

  -- the periods that count
  pub counted_move : Moves a start (counted_period a r start t) (λ i n. period_gives a r start t (counted_period a r start t i) n)
  counted_move = every_ith a start (period a r start t) (λ k n. period_gives a r start t (period a r start t k) n) r.parts.interval (interval_some r) periods_move
