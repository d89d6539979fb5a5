-- What a rule gives in months and in years, and a queue to which its days are added.
use Rattle.std.specs.Prelude.{◌≡◌, ℕ, ◌+◌, ◌≤◌, Bool, true, false, cond, not, ◌&&◌, ◌||◌, ◌⊎◌, length, Some, None, Option, ◌==◌}
use Rattle.std.specs.List.{ContainsAt as Has}
use Rattle.queue.specs.Lent.{Holding}
use Rattle.calendar.specs.declared.sheet.MonthCode.{MonthCode}
use Rattle.calendar.specs.declared.sheet.Sheet.{Sheet}
use Rattle.calendar.specs.Sheets.{days_of}
use Rattle.rules.specs.declared.checked.Rule.{Rule}
use Rattle.rules.specs.declared.parts.Position.TheVariants.{FromStart}
use Rattle.rules.specs.declared.period.Stretch.{Stretch}
use Rattle.rules.specs.Parts.{no_items}
use Rattle.rules.specs.Meaning.{month_at, value_gives, code_gives, chosen, by_month, by_month_day, by_day, weekday_passes, month_days_give, weekdays_give}

-- the one day that passes a test, or none where none does
abbrev pub OneDay : (ℕ → Bool) → Option ℕ → Type 0
OneDay f (Some d) = (n : ℕ) → f n ≡ (n == d)
OneDay f None = (n : ℕ) → f n ≡ false

-- a stretch of at most a year, among the days of calendars
pub record Small (m : Stretch) : Type 0 where
  pub from : m.from ≤ 804000
  pub size : m.size ≤ 385

-- a queue before and after days are added: at most `most` entries more, in as many places, and holding what it held and
-- the days that pass f, and nothing else
pub record Adds (old new : Holding ℕ) (most : ℕ) (f : ℕ → Bool) : Type 0 where
  pub few : length new.entries ≤ length old.entries + most
  pub places : new.places ≡ old.places
  pub kept : (n : ℕ) → Has old.entries n → Has new.entries n
  pub added : (n : ℕ) → f n ≡ true → Has new.entries n
  pub only : (n : ℕ) → Has new.entries n → Has old.entries n ⊎ (f n ≡ true)

-- what the parts of a rule give in a month of the stretch m, if DTSTART is day d of its month: BYMONTHDAY's values, limited
-- by BYDAY, else BYDAY's weekdays, else DTSTART's own day
abbrev pub in_month : Rule → ℕ → Stretch → ℕ → Bool
in_month r d m n =
    cond (not (no_items (by_month_day r))) (weekday_passes r n && month_days_give r m n)
    (cond (not (no_items (by_day r))) (weekdays_give r m n) (value_gives r.parts.skip m n (FromStart d)))

-- a sheet whose months and days are those of a calendar
pub record Usable (s : Sheet) : Type 0 where
  pub months : s.months ≤ 13
  pub first : s.first ≤ 804000
  pub year : days_of s ≤ 385
  pub from : (p : ℕ) → 1 ≤ p → p ≤ s.months → (month_at s p).from ≤ 804000
  pub size : (p : ℕ) → 1 ≤ p → p ≤ s.months → (month_at s p).size ≤ 31

-- the month at place p is one whose days a year gives: one of BYMONTH's, else every one under BYMONTHDAY, else that of
-- DTSTART's own code
abbrev pub taken : Rule → MonthCode → Sheet → ℕ → Bool
taken r own s p = cond (no_items (by_month r)) (not (no_items (by_month_day r)) || code_gives r.parts.skip s own p) (chosen r s p)

-- BYDAY stands alone, so that its weekdays are counted in the whole year
abbrev pub by_day_alone : Rule → Bool
by_day_alone r = no_items (by_month_day r) && (not (no_items (by_day r)) && no_items (by_month r))
