-- From a period that counts to the next one, and to the one at which a search may begin.
-- The library has no calendars and no periods, so these lemmas are our own.
use Rattle.std.proofs.Common.{◌≡◌, ℕ, ◌+◌, ◌-◌, ◌*◌, ◌/◌, ◌<◌, ◌≤◌, Bool, true, false, cond, ltb, Some, None, Option, MatchOption, sym, refl, ap, ◌∙◌, subst, ⊎_elim, mul-le-mul_right, add-mul, mul-le-mul_left, mul-add, le-mul_of_pos_right, div-mul-le_self, mul_left_comm, add-one, arith}
use Rattle.std.proofs.lemmas.Bool.{cases_lt, lt-ltb, le-ltb}
use Rattle.days.specs.Numbers.{in_range, remainder}
use Rattle.calendar.specs.Sheets.{Almanac, Answered, Within, Stands, Dated}
use Rattle.calendar.specs.Laws.{Lawful}
use Rattle.calendar.proofs.Years.{stands_within, between, apart_by}
use Rattle.rules.specs.declared.checked.Rule.{Rule}
use Rattle.rules.specs.declared.parts.Frequency.{Frequency}
use Rattle.rules.specs.declared.parts.Frequency.TheVariants.{Yearly, Monthly, Weekly, Daily}
use Rattle.rules.specs.declared.period.Period.{Period}
use Rattle.rules.specs.declared.period.Period.TheVariants.{Year, Month, Week, Day}
use Rattle.rules.specs.Meaning.{Date, next_month, month_after, week_of, period_gives, period_of, period, counted_period, counted_gives}
use Rattle.rule_days.specs.Onward.{NoneBefore, NoneFrom, Reached, Steps, MonthsOn, YearBefore}
use Rattle.rules.proofs.Fitting.{interval_some}
use Rattle.rules.proofs.Bounds.{week_bounds, day_bounds}
use Rattle.rules.proofs.Monthly.{months_further}
use Rattle.rules.proofs.Onward.{Present, first_day, periods_move}
use Rattle.rule_days.proofs.Leasts.{none_skipped}

-- ── months ──

module _ (a : Almanac) (m here : ℕ × ℕ) (k : ℕ) (e : here ≡ month_after a m k) where
  turned : (b : Bool) → ltb here.1 (a.sheet here.0).months ≡ b → month_after a m (k + 1) ≡ cond b (here.0, here.1 + 1) (here.0 + 1, 1)
  turned b h =
      ap (month_after a m) (add-one k) ∙ ap (next_month a) (sym e) ∙ ap (λ (x : Bool). cond x (here.0, here.1 + 1) (here.0 + 1, 1)) h

  -- the month after `here`, within the year or of the next
  pub same_year : here.1 < (a.sheet here.0).months → month_after a m (k + 1) ≡ (here.0, here.1 + 1)
  same_year h = turned true (lt-ltb _ _ h)

  pub next_year : (a.sheet here.0).months ≤ here.1 → month_after a m (k + 1) ≡ (here.0 + 1, 1)
  next_year h = turned false (le-ltb _ _ h)

  -- a year that is not answered stops the months
  pub none_further : (n : ℕ) → k ≤ n → (Answered a here.0 → ⊥) → MonthsOn a m n None
  none_further n le h = (k, le, subst (λ (x : ℕ × ℕ). Answered a x.0 → ⊥) e h)

-- ── from a period to the next that counts ──

-- the period n periods after p
abbrev pub periods_on : Almanac → Period → ℕ → Period
periods_on a (Year y) n = Year (y + n)
periods_on a (Month y p) n = let m = month_after a (y, p) n in Month m.0 m.1
periods_on a (Week b) n = Week (b + 7 * n)
periods_on a (Day d) n = Day (d + n)

-- n periods after the k-th
periods_further : (q : Frequency) (a : Almanac) (r : Rule) (start : ℕ) (t : Date) (k n : ℕ) → periods_on a (period_of q a r start t k) n ≡ period_of q a r start t (k + n)
periods_further Yearly a r start t k n = ap Year (omega arith)
periods_further Monthly a r start t k n = ap (λ (m : ℕ × ℕ). Month m.0 m.1) (sym (months_further a (t.year, t.place) k n))
periods_further Weekly a r start t k n = ap Week (omega arith)
periods_further Daily a r start t k n = ap Day (omega arith)

-- n periods after the i-th that counts
further : (a : Almanac) (r : Rule) (start : ℕ) (t : Date) (s : Period) (i n : ℕ) → s ≡ counted_period a r start t i → periods_on a s n ≡ period a r start t (i * r.parts.interval + n)
further a r start t s i n e = ap (λ (x : Period). periods_on a x n) e ∙ periods_further r.parts.frequency a r start t (i * r.parts.interval) n

-- the period n periods after p, or none if one on the way there is not there, or begins after the range
abbrev pub Onto : Almanac → Period → ℕ → Option Period → Type 0
Onto a p n (Some q) = q ≡ periods_on a p n
Onto a p n None = (k : ℕ) × (k ≤ n) × (Present a (periods_on a p k) → first_day a (periods_on a p k) ≤ 803168 → ⊥)

-- from a period on that is not there, or begins after the range, none that counts gives a day of the range
none_past : (a : Almanac) → Lawful a → (r : Rule) (start : ℕ) (t : Date) → in_range start ≡ true → Stands a start t.year t.place t.day → (low i k : ℕ) → k ≤ i * r.parts.interval → (Present a (period a r start t k) → first_day a (period a r start t k) ≤ 803168 → ⊥) → NoneFrom a r start t low i
none_past a l r start t ranged st low i k h over j le n e lo hi =
    let m = periods_move a l r start t ranged st in
    let on = mul-le-mul_right r.parts.interval le in
    let f = m.from (j * r.parts.interval) n e in
    let w = m.onward k (j * r.parts.interval) (omega arith) (m.present (j * r.parts.interval) n e) in
    over w.0 (omega (arith, w.1))

-- as many periods on as the interval has, the next one counts
pub stepped : (a : Almanac) → Lawful a → (p s : Period) → p ≡ s → (n : ℕ) (o : Option Period) → Onto a s n o → Steps a p n o
stepped a l p s is n (Some q) h r start t low i ranged st same at =
    let k : i * r.parts.interval + n ≡ (i + 1) * r.parts.interval = omega (arith, add-mul i 1 r.parts.interval) in
    h ∙ further a r start t s i n (sym is ∙ at) ∙ ap (period a r start t) k
stepped a l p s is n None h r start t low i ranged st same at =
    let le = h.1 in
    let e = add-mul i 1 r.parts.interval in
    none_past a l r start t ranged st low (i + 1) (i * r.parts.interval + h.0) (omega arith)
    (subst (λ (x : Period). Present a x → first_day a x ≤ 803168 → ⊥) (further a r start t s i h.0 (sym is ∙ at)) h.2)

-- no period that counts comes after s
pub stopped : (a : Almanac) → Lawful a → (p s : Period) → p ≡ s → (n : ℕ) (o : Option Period) → o ≡ None → (Present a (periods_on a s n) → first_day a (periods_on a s n) ≤ 803168 → ⊥) → Steps a p n o
stopped a l p s is n o none h = rw none (stepped a l p s is n None (n, omega arith, h))

pub months_stepped : (a : Almanac) → Lawful a → (p : Period) (y q : ℕ) → p ≡ Month y q → (n : ℕ) (m : ℕ × ℕ) → MonthsOn a (y, q) n (Some m) → Steps a p n (Some (Month m.0 m.1))
months_stepped a l p y q is n m h = stepped a l p (Month y q) is n (Some (Month m.0 m.1)) (ap (λ (x : ℕ × ℕ). Month x.0 x.1) h)

pub months_stopped : (a : Almanac) → Lawful a → (p : Period) (y q : ℕ) → p ≡ Month y q → (n : ℕ) (o : Option Period) → o ≡ None → MonthsOn a (y, q) n None → Steps a p n o
months_stopped a l p y q is n o none h = rw none (stepped a l p (Month y q) is n None (h.0, h.1, λ f _. h.2 f))

-- ── where a search may begin ──

-- the last year counted from y on that is not after the year of the day before `low`
pub year_before : (a : Almanac) → Lawful a → (y n low z r : ℕ) → 0 < n → 0 < low → Within a (low - 1) z → r ≡ y + (z - y) / n * n → YearBefore a y n low r
year_before a l y n low z r some pos w e =
    let i = (z - y) / n in
    let near = div-mul-le_self (z - y) n in
    let more = le-mul_of_pos_right i some in
    let from = w.from in
    record {
      which = i;
      is = e;
      begins = λ ans c.
          let here = between a l y r z ans w.answered (omega arith) (omega arith) in
          let apart = apart_by a l r z here w.answered (omega arith) in
          (here, omega arith);
    }

-- the same from the date of that day, and y where it has none
pub year_from : (a : Almanac) → Lawful a → (y n low : ℕ) (d : Option (ℕ × ℕ × ℕ)) (r : ℕ) → 0 < n → 0 < low → Dated a (low - 1) d → MatchOption d (r ≡ y) (λ t. r ≡ y + (t.0 - y) / n * n) → YearBefore a y n low r
year_from a l y n low (Some t) r some pos h e = year_before a l y n low t.0 r some pos (stands_within _ _ _ _ _ (h.stands _ _ _ refl)) e
year_from a l y n low None r some pos h e = record { which = 0; is = omega (arith, e); begins = λ ans c. let no : ⊥ = omega arith in absurd no }

module _ (a : Almanac) (r : Rule) (start : ℕ) (t : Date) (low : ℕ) (q : Frequency) (of : r.parts.frequency ≡ q) where
  counted_as : (i : ℕ) → period_of q a r start t (i * r.parts.interval) ≡ counted_period a r start t i
  counted_as i = ap (λ (x : Frequency). period_of x a r start t (i * r.parts.interval)) (sym of)

  given_as : (i n : ℕ) → counted_gives a r start t i n ≡ true → period_gives a r start t (period_of q a r start t (i * r.parts.interval)) n ≡ true
  given_as i n e = ap (λ (p : Period). period_gives a r start t p n) (counted_as i) ∙ e

  reached : (p : Period) (i : ℕ) → p ≡ period_of q a r start t (i * r.parts.interval) → NoneBefore a r start t low i → Reached a r start t low p
  reached p i e b = record { which = i; counts = e ∙ counted_as i; before = b }

module _ (a : Almanac) (r : Rule) (start : ℕ) (t : Date) (low : ℕ) where
  -- periods of s days each, of which the first begins on b, give none from `low` on before one that begins by then
  none_earlier : (s b i : ℕ) → 0 < s → s * (i * r.parts.interval) ≤ low - b → ((j n : ℕ) → counted_gives a r start t j n ≡ true → n < b + s * (j * r.parts.interval) + s) → NoneBefore a r start t low i
  none_earlier s b i pos near within j lt n g lo hi =
      let k = r.parts.interval in
      let some = interval_some r in
      let next = mul-le-mul_right k lt in
      let e = add-mul j 1 k in
      let far = mul-le-mul_left {m = j * k + 1} {n = i * k} s (omega arith) in
      let f = mul-add s (j * k) 1 in
      let w = within j n g in
      omega arith

  -- the last that counts of the weeks that begin at or before `low`
  pub week_reached : r.parts.frequency ≡ Weekly → (n b d : ℕ) → n ≡ r.parts.interval → b ≡ week_of (remainder r.parts.week_start) start → d ≡ b + (low - b) / (7 * n) * (7 * n) → Reached a r start t low (Week d)
  week_reached of n b d same is e =
      let i = (low - b) / (7 * n) in
      let near = div-mul-le_self (low - b) (7 * n) in
      let times : i * (7 * n) ≡ 7 * (i * r.parts.interval) = mul_left_comm i 7 n ∙ ap (λ (x : ℕ). 7 * (i * x)) same in
      reached a r start t low Weekly of (Week d) i (ap Week (omega arith))
      (none_earlier 7 b i (omega arith) (omega arith)
      (λ j m g. let w = (week_bounds a r start _ m (given_as a r start t low Weekly of j m g)).1 in omega arith))

  -- the last day that counts at or before `low`
  pub day_reached : r.parts.frequency ≡ Daily → (n d : ℕ) → n ≡ r.parts.interval → d ≡ start + (low - start) / n * n → Reached a r start t low (Day d)
  day_reached of n d same e =
      let i = (low - start) / n in
      let near = div-mul-le_self (low - start) n in
      let times : i * n ≡ i * r.parts.interval = ap (λ (x : ℕ). i * x) same in
      reached a r start t low Daily of (Day d) i (ap Day (omega arith))
      (none_earlier 1 start i (omega arith) (omega arith)
      (λ j m g. let w = day_bounds a r _ m (given_as a r start t low Daily of j m g) in omega arith))

  -- a year that counts and begins before `low`, or DTSTART's
  pub year_reached : Lawful a → in_range start ≡ true → Stands a start t.year t.place t.day → r.parts.frequency ≡ Yearly → (n y : ℕ) → n ≡ r.parts.interval → YearBefore a t.year n low y → Reached a r start t low (Year y)
  year_reached l ranged st of n y same h =
      let i = h.which in
      let e = h.is in
      let times : i * n ≡ i * r.parts.interval = ap (λ (x : ℕ). i * x) same in
      let is : Year y ≡ period_of Yearly a r start t (i * r.parts.interval) = ap Year (omega arith) in
      reached a r start t low Yearly of (Year y) i is
      (⊎_elim
      (λ (c : 0 < i).
      let b = subst (λ (p : Period). Present a p × (first_day a p < low)) (is ∙ counted_as a r start t low Yearly of i)
      (h.begins (stands_within a start t.year t.place t.day st).answered c) in
      none_skipped a l r start t ranged st low i b.0 b.1)
      (λ (c : i ≤ 0) j lt m g lo hi. omega arith)
      (cases_lt 0 i))
