-- A search through the periods of a rule: what it has passed, and what comes next.
use Rattle.std.specs.Prelude.{◌≡◌, ℕ, ◌+◌, ◌*◌, ◌<◌, ◌≤◌, Bool, true, cond, Some, None, Option, nat_le, nat_lt}
use Rattle.days.specs.Numbers.{in_range}
use Rattle.calendar.specs.Sheets.{Almanac, Answered, Stands}
use Rattle.rules.specs.declared.checked.Rule.{Rule}
use Rattle.rules.specs.declared.period.Period.{Period}
use Rattle.rules.specs.declared.period.Period.TheVariants.{Year, Month, Week, Day}
use Rattle.rules.specs.Meaning.{Date, month_after, counted_period, counted_gives}

-- the i-th period that counts gives no day of the range from `low` on
abbrev pub GivesNone : Almanac → Rule → ℕ → Date → ℕ → ℕ → Type 0
GivesNone a r start t low i = (n : ℕ) → counted_gives a r start t i n ≡ true → low ≤ n → n ≤ 803168 → ⊥

-- no period before the i-th does
abbrev pub NoneBefore : Almanac → Rule → ℕ → Date → ℕ → ℕ → Type 0
NoneBefore a r start t low i = (j : ℕ) → j < i → GivesNone a r start t low j

-- no period from the i-th on does
abbrev pub NoneFrom : Almanac → Rule → ℕ → Date → ℕ → ℕ → Type 0
NoneFrom a r start t low i = (j : ℕ) → i ≤ j → GivesNone a r start t low j

-- the period is one that counts, and none before it gives a day of the range from `low` on
pub record Reached (a : Almanac) (r : Rule) (start : ℕ) (t : Date) (low : ℕ) (p : Period) : Type 0 where
  pub which : ℕ
  pub counts : p ≡ counted_period a r start t which
  pub before : NoneBefore a r start t low which

-- what comes after the i-th period that counts: the next one, or that no later one gives a day of the range
abbrev pub Next : Almanac → Rule → ℕ → Date → ℕ → ℕ → Option Period → Type 0
Next a r start t low i (Some p) = p ≡ counted_period a r start t (i + 1)
Next a r start t low i None = NoneFrom a r start t low (i + 1)

-- the answer is what comes after the period p, whichever rule of that interval counts p
abbrev pub Steps : Almanac → Period → ℕ → Option Period → Type 0
Steps a p interval q =
    (r : Rule) (start : ℕ) (t : Date) (low i : ℕ) → in_range start ≡ true → Stands a start t.year t.place t.day
    → interval ≡ r.parts.interval → p ≡ counted_period a r start t i → Next a r start t low i q

-- the month n months after m, or none if a month on the way there is of a year that the almanac does not answer
abbrev pub MonthsOn : Almanac → ℕ × ℕ → ℕ → Option (ℕ × ℕ) → Type 0
MonthsOn a m n (Some q) = q ≡ month_after a m n
MonthsOn a m n None = (k : ℕ) × (k ≤ n) × (Answered a (month_after a m k).0 → ⊥)

-- the year r is some intervals after y, none of them or so many that it still begins before the day `low`
pub record YearBefore (a : Almanac) (y interval low r : ℕ) : Type 0 where
  pub which : ℕ
  pub is : r ≡ y + which * interval
  pub begins : Answered a y → 0 < which → Answered a r × ((a.sheet r).first < low)

-- a date as three numbers
abbrev pub the_date : ℕ × ℕ × ℕ → Date
the_date d = record { year = d.0; place = d.1; day = d.2 }

-- the almanac has the period, and it does not begin after the range
abbrev pub reachable : Almanac → Period → Bool
reachable a (Year y) = nat_lt 0 (a.sheet y).months
reachable a (Month y p) = nat_lt 0 (a.sheet y).months
reachable a (Week b) = nat_le b 803168
reachable a (Day d) = nat_le d 803168

-- a day, if it is not after the range
abbrev pub not_after : ℕ → Option ℕ
not_after d = cond (nat_le d 803168) (Some d) None

-- a period that the almanac has, among the days of calendars
abbrev pub Placed : Almanac → Period → Type 0
Placed a (Year y) = Answered a y
Placed a (Month y p) = Answered a y × (1 ≤ p)
Placed a (Week b) = b ≤ 804000
Placed a (Day d) = d ≤ 804000
