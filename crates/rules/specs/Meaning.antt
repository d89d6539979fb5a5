-- What a rule means over any almanac: the days that its periods give.
use Rattle.std.specs.Prelude.{◌≡◌, ℕ, zero, suc, ◌+◌, ◌-◌, ◌*◌, ◌/◌, ◌%◌, ◌≤◌, Bool, true, false, cond, not, ◌&&◌, ◌||◌, List, Some, None, Option, ◌==◌, nat_le, nat_lt}
use Rattle.days.specs.Numbers.{in_range, remainder}
use Rattle.days.specs.Months.{before, length_at}
use Rattle.calendar.specs.declared.sheet.MonthCode.{MonthCode}
use Rattle.calendar.specs.declared.sheet.Sheet.{Sheet}
use Rattle.calendar.specs.Sheets.{Almanac, plain_code, lengths_of, days_of, codes_of, code_at}
use Rattle.calendar.specs.Dates.{is_same}
use Rattle.calendar.specs.Laws.{Lawful}
use Rattle.rules.specs.declared.checked.Rule.{Rule}
use Rattle.rules.specs.declared.parts.ByDay.{ByDay}
use Rattle.rules.specs.declared.parts.Frequency.TheVariants.{Yearly, Monthly, Weekly, Daily}
use Rattle.rules.specs.declared.parts.Frequency.{Frequency}
use Rattle.rules.specs.declared.parts.Position.{Position}
use Rattle.rules.specs.declared.parts.Position.TheVariants.{FromStart, FromEnd}
use Rattle.rules.specs.declared.parts.Skip.{Skip}
use Rattle.rules.specs.declared.parts.Skip.TheVariants.{Omit, Backward, Forward}
use Rattle.rules.specs.declared.period.Period.{Period}
use Rattle.rules.specs.declared.period.Stretch.{Stretch}
use Rattle.rules.specs.declared.period.Period.TheVariants.{Year, Month, Week, Day}
use Rattle.rules.specs.Parts.{some_of, no_items}

-- one of the numbers below n passes
abbrev pub some_below : (ℕ → Bool) → ℕ → Bool
some_below f zero = false
some_below f (suc n) = f n || some_below f n

-- the first of n numbers from k on that passes
abbrev pub first_from : (ℕ → Bool) → ℕ → ℕ → Option ℕ
first_from f k zero = None
first_from f k (suc n) = cond (f k) (Some k) (first_from f (suc k) n)

-- ── stretches of days ──

abbrev pub inside : Stretch → ℕ → Bool
inside m n = nat_le m.from n && nat_lt n (m.from + m.size)

abbrev pub whole_year : Sheet → Stretch
whole_year s = record { from = s.first; size = days_of s }

-- the month at the place p, which counts from 1
abbrev pub month_at : Sheet → ℕ → Stretch
month_at s p = record { from = s.first + before (lengths_of s) p; size = length_at (lengths_of s) p }

-- ── the date of a day ──

abbrev pub year_of : Almanac → ℕ → Option ℕ
year_of a n = first_from (λ y. inside (whole_year (a.sheet y)) n) a.lowest (a.highest + 1 - a.lowest)

abbrev pub place_of : Sheet → ℕ → Option ℕ
place_of s n = first_from (λ p. inside (month_at s p) n) 1 s.months

-- a date by year and place
pub record Date : Type 0 where
  pub year : ℕ
  pub place : ℕ
  pub day : ℕ

abbrev pub date_in : ℕ → Sheet → ℕ → Option ℕ → Option Date
date_in y s n (Some p) = Some (record { year = y; place = p; day = n + 1 - (month_at s p).from })
date_in y s n None = None

abbrev pub date_of_year : Almanac → ℕ → Option ℕ → Option Date
date_of_year a n (Some y) = date_in y (a.sheet y) n (place_of (a.sheet y) n)
date_of_year a n None = None

abbrev pub date_of : Almanac → ℕ → Option Date
date_of a n = date_of_year a n (year_of a n)

-- ── a code in a year ──

-- the year has a month of the code
abbrev pub has_code : Sheet → MonthCode → Bool
has_code s c = some_of (λ d. is_same d c) (codes_of s)

-- what stands in for the leap month nL in a year that lacks it
abbrev pub stands_in : Skip → ℕ → MonthCode → Bool
stands_in Omit n d = false
stands_in Backward n d = is_same d (plain_code n)
stands_in Forward n d = is_same d (plain_code (n + 1))

-- the month at place p is the one that the code gives in the year
abbrev pub code_gives : Skip → Sheet → MonthCode → ℕ → Bool
code_gives k s c p = is_same (code_at s p) c || ((c.leap && not (has_code s c)) && stands_in k c.number (code_at s p))

-- ── a value in a month ──

-- a value above the month's length: the day after the month's last is the first of the following month
abbrev pub beyond : Skip → Stretch → ℕ → Bool
beyond Omit m n = false
beyond Backward m n = n + 1 == m.from + m.size
beyond Forward m n = n == m.from + m.size

-- the value gives the day n in the month m
abbrev pub value_gives : Skip → Stretch → ℕ → Position → Bool
value_gives k m n (FromStart v) = cond (nat_le v m.size) (n + 1 == m.from + v) (beyond k m n)
value_gives k m n (FromEnd v) = nat_le v m.size && n + v == m.from + m.size

-- ── a weekday in a stretch ──

-- n is the weekday's so-manieth of the stretch: so many whole weeks lie between it and the stretch's start, or end
abbrev pub in_position : Stretch → ℕ → Option Position → Bool
in_position m n None = true
in_position m n (Some (FromStart j)) = (n - m.from) / 7 + 1 == j
in_position m n (Some (FromEnd j)) = (m.from + m.size - 1 - n) / 7 + 1 == j

abbrev pub on_weekday : ℕ → ByDay → Bool
on_weekday n b = n % 7 == remainder b.weekday

abbrev pub weekday_gives : Stretch → ℕ → ByDay → Bool
weekday_gives m n b = inside m n && (on_weekday n b && in_position m n b.position)

-- ── the parts of a rule ──

abbrev pub by_month : Rule → List MonthCode
by_month r = r.parts.months

abbrev pub by_month_day : Rule → List Position
by_month_day r = r.parts.month_days

abbrev pub by_day : Rule → List ByDay
by_day r = r.parts.weekdays

-- ── limits: each looks at a day's own date ──

abbrev pub weekday_passes : Rule → ℕ → Bool
weekday_passes r n = no_items (by_day r) || some_of (on_weekday n) (by_day r)

abbrev pub code_passes : Rule → MonthCode → Bool
code_passes r c = no_items (by_month r) || some_of (λ d. is_same d c) (by_month r)

-- the value names the day d of a month of length l
abbrev pub names : ℕ → ℕ → Position → Bool
names d l (FromStart v) = d == v
names d l (FromEnd v) = d + v == l + 1

abbrev pub value_passes : Rule → ℕ → ℕ → Bool
value_passes r d l = no_items (by_month_day r) || some_of (names d l) (by_month_day r)

abbrev pub date_passes : Almanac → Rule → Option Date → Bool
date_passes a r (Some t) =
    code_passes r (code_at (a.sheet t.year) t.place) && value_passes r t.day (month_at (a.sheet t.year) t.place).size
date_passes a r None = false

-- ── the days of a period ──

-- some month of the year passes
abbrev pub some_month : Sheet → (ℕ → Bool) → Bool
some_month s f = some_below (λ i. f (i + 1)) s.months

-- the month at place p is one of BYMONTH's, as SKIP has it
abbrev pub chosen : Rule → Sheet → ℕ → Bool
chosen r s p = some_of (λ c. code_gives r.parts.skip s c p) (by_month r)

-- a value of BYMONTHDAY gives n in the month m; a weekday of BYDAY does; DTSTART's day of the month does
abbrev pub month_days_give : Rule → Stretch → ℕ → Bool
month_days_give r m n = some_of (value_gives r.parts.skip m n) (by_month_day r)

abbrev pub weekdays_give : Rule → Stretch → ℕ → Bool
weekdays_give r m n = some_of (weekday_gives m n) (by_day r)

abbrev pub own_day_gives : Rule → Date → Stretch → ℕ → Bool
own_day_gives r t m n = value_gives r.parts.skip m n (FromStart t.day)

-- the year of the sheet s gives n; DTSTART has the date t, and own is its month's code
abbrev pub year_gives : Rule → Date → MonthCode → Sheet → ℕ → Bool
year_gives r t own s n =
    cond (not (no_items (by_month_day r)))
    (weekday_passes r n && some_month s (λ p. (no_items (by_month r) || chosen r s p) && month_days_give r (month_at s p) n))
    (cond (not (no_items (by_day r)))
    (cond (no_items (by_month r)) (weekdays_give r (whole_year s) n) (some_month s (λ p. chosen r s p && weekdays_give r (month_at s p) n)))
    (some_month s (λ p. cond (no_items (by_month r)) (code_gives r.parts.skip s own p) (chosen r s p) && own_day_gives r t (month_at s p) n)))

-- the month at place p gives n
abbrev pub month_gives : Rule → Date → Sheet → ℕ → ℕ → Bool
month_gives r t s p n =
    (nat_le p s.months && code_passes r (code_at s p))
    && cond (not (no_items (by_month_day r))) (weekday_passes r n && month_days_give r (month_at s p) n)
    (cond (not (no_items (by_day r))) (weekdays_give r (month_at s p) n) (own_day_gives r t (month_at s p) n))

-- the week that begins on the day b gives n; without BYDAY it is DTSTART's weekday
abbrev pub week_gives : Almanac → Rule → ℕ → ℕ → ℕ → Bool
week_gives a r start b n =
    (nat_le b n && nat_lt n (b + 7))
    && (cond (no_items (by_day r)) (n % 7 == start % 7) (weekday_passes r n) && (no_items (by_month r) || date_passes a r (date_of a n)))

-- the day d gives n: itself, within the limits
abbrev pub day_gives : Almanac → Rule → ℕ → ℕ → Bool
day_gives a r d n = n == d && (weekday_passes r n && date_passes a r (date_of a n))

abbrev pub period_gives : Almanac → Rule → ℕ → Date → Period → ℕ → Bool
period_gives a r start t (Year y) n = year_gives r t (code_at (a.sheet t.year) t.place) (a.sheet y) n
period_gives a r start t (Month y p) n = month_gives r t (a.sheet y) p n
period_gives a r start t (Week b) n = week_gives a r start b n
period_gives a r start t (Day d) n = day_gives a r d n

-- ── the periods ──

-- the first day of the week of the day n, where weeks begin on the weekday of the remainder w
abbrev pub week_of : ℕ → ℕ → ℕ
week_of w n = n - (n + 7 - w) % 7

-- months run on through the years, leap months among them
abbrev pub next_month : Almanac → ℕ × ℕ → ℕ × ℕ
next_month a m = cond (nat_lt m.1 (a.sheet m.0).months) (m.0, m.1 + 1) (m.0 + 1, 1)

abbrev pub month_after : Almanac → ℕ × ℕ → ℕ → ℕ × ℕ
month_after a m zero = m
month_after a m (suc k) = next_month a (month_after a m k)

-- the k-th period after DTSTART's own
abbrev pub period_of : Frequency → Almanac → Rule → ℕ → Date → ℕ → Period
period_of Yearly a r start t k = Year (t.year + k)
period_of Monthly a r start t k = let m = month_after a (t.year, t.place) k in Month m.0 m.1
period_of Weekly a r start t k = Week (week_of (remainder r.parts.week_start) start + 7 * k)
period_of Daily a r start t k = Day (start + k)

abbrev pub period : Almanac → Rule → ℕ → Date → ℕ → Period
period a r start t k = period_of r.parts.frequency a r start t k

-- only every INTERVAL-th period counts: the i-th that counts
abbrev pub counted_period : Almanac → Rule → ℕ → Date → ℕ → Period
counted_period a r start t i = period a r start t (i * r.parts.interval)

-- the i-th period that counts gives n
abbrev pub counted_gives : Almanac → Rule → ℕ → Date → ℕ → ℕ → Bool
counted_gives a r start t i n = period_gives a r start t (counted_period a r start t i) n

-- ── the rule's days ──

-- n is a day of one of the first m periods that count
abbrev pub given_among : Almanac → Rule → ℕ → Option Date → ℕ → ℕ → Bool
given_among a r start (Some t) m n = some_below (λ i. period_gives a r start t (counted_period a r start t i) n) m
given_among a r start None m n = false

-- the i-th period that counts gives no day before the i-th after DTSTART, so the first n + 1 - start of them suffice
abbrev pub gives : Almanac → Rule → ℕ → ℕ → Bool
gives a r start n = (in_range n && nat_le start n) && given_among a r start (date_of a start) (n + 1 - start) n

-- the same in other words: n is in the range, not before DTSTART, and a day of some period that counts
pub record Gives (a : Almanac) (r : Rule) (start n : ℕ) : Type 0 where
  pub ranged : in_range n ≡ true
  pub not_before : start ≤ n
  pub date : Date
  pub dated : date_of a start ≡ Some date
  pub which : ℕ
  pub given : period_gives a r start date (counted_period a r start date which) n ≡ true

-- over any lawful almanac and from any day of the range, the test says what the words say
abbrev pub RulesSay : Type 0
RulesSay =
    (a : Almanac) → Lawful a → (r : Rule) (start n : ℕ) → in_range start ≡ true
    → (gives a r start n ≡ true → Gives a r start n) × (Gives a r start n → gives a r start n ≡ true)
