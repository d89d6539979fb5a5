-- What a year gives, as what its months give.
use Rattle.std.proofs.Common.{◌≡◌, ℕ, zero, suc, ◌+◌, Bool, true, false, cond, not, ◌&&◌, ◌||◌, refl, ap, ◌∙◌}
use Rattle.std.proofs.lemmas.Bool.{true≢false}
use Rattle.calendar.specs.declared.sheet.MonthCode.{MonthCode}
use Rattle.calendar.specs.declared.sheet.Sheet.{Sheet}
use Rattle.rules.specs.declared.checked.Rule.{Rule}
use Rattle.rules.specs.Parts.{no_items}
use Rattle.rules.specs.Meaning.{Date, some_below, some_month, month_at, whole_year, by_month, by_month_day, by_day, weekday_passes, month_days_give, weekdays_give, own_day_gives, code_gives, chosen, year_gives}
use Rattle.rule_months.specs.Filling.{in_month, taken, by_day_alone}

-- tests that agree find the same
pub below_same : (f g : ℕ → Bool) → ((i : ℕ) → f i ≡ g i) → (k : ℕ) → some_below f k ≡ some_below g k
below_same f g e zero = refl
below_same f g e (suc k) = ap (λ (b : Bool). b || some_below f k) (e k) ∙ ap (λ (b : Bool). g k || b) (below_same f g e k)

-- a limit goes over to each
below_limit : (a : Bool) (f : ℕ → Bool) (k : ℕ) → (a && some_below f k) ≡ some_below (λ i. a && f i) k
below_limit true f k = refl
below_limit false f zero = refl
below_limit false f (suc k) = below_limit false f k

swap_limits : (a b c : Bool) → (a && (b && c)) ≡ (b && (a && c))
swap_limits true b c = refl
swap_limits false true c = refl
swap_limits false false c = refl

-- the ways in which a year gives days, over plain tests: no BYMONTHDAY, no BYDAY, no BYMONTH; the limit by weekday; the whole
-- year; and for each month whether it is chosen, what BYMONTHDAY and BYDAY give, whether it is of DTSTART's code, and what
-- DTSTART's day gives
split : (no-days no-week no-months limit whole : Bool) (ch md wd cg own : ℕ → Bool) (k : ℕ) → (no-days && (not no-week && no-months)) ≡ false →
    cond (not no-days) (limit && some_below (λ i. (no-months || ch i) && md i) k) (cond (not no-week) (cond no-months whole (some_below (λ i. ch i && wd i) k)) (some_below (λ i. cond no-months (cg i) (ch i) && own i) k))
    ≡ some_below (λ i. cond no-months (not no-days || cg i) (ch i) && cond (not no-days) (limit && md i) (cond (not no-week) (wd i) (own i))) k
split false w true limit whole ch md wd cg own k e = below_limit limit _ k
split false w false limit whole ch md wd cg own k e = below_limit limit _ k ∙ below_same _ _ (λ i. swap_limits limit (ch i) (md i)) k
split true false true limit whole ch md wd cg own k e = absurd (true≢false e)
split true false false limit whole ch md wd cg own k e = refl
split true true true limit whole ch md wd cg own k e = refl
split true true false limit whole ch md wd cg own k e = refl

module _ (r : Rule) (t : Date) (own : MonthCode) (s : Sheet) (n : ℕ) where
  pub year_by_months : by_day_alone r ≡ false → year_gives r t own s n ≡ some_month s (λ p. taken r own s p && in_month r t.day (month_at s p) n)
  year_by_months e =
      split (no_items (by_month_day r)) (no_items (by_day r)) (no_items (by_month r)) (weekday_passes r n) (weekdays_give r (whole_year s) n)
      (λ i. chosen r s (i + 1)) (λ i. month_days_give r (month_at s (i + 1)) n) (λ i. weekdays_give r (month_at s (i + 1)) n) (λ i. code_gives r.parts.skip s own (i + 1)) (λ i. own_day_gives r t (month_at s (i + 1)) n) s.months e
