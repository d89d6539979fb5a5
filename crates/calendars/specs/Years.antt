-- Sheets in the span: outside a calendar's years they are empty, and an answered one is as the calendar reckons it.
use Rattle.std.specs.Prelude.{◌≡◌, ℕ, ◌+◌, ◌<◌, ◌≤◌, false, nat_le}
use Rattle.std.proofs.Common.{ap, ⊎_elim, arith}
use Rattle.std.proofs.lemmas.Bool.{and_left, and_right, lt-leb, cond-true, cond-false, cases_lt, cases_Bool}
use Rattle.calendar.specs.declared.sheet.Sheet.{Sheet}
use Rattle.calendar.specs.Sheets.{Almanac, empty_sheet, days_of}
use Rattle.calendars.specs.Span.{whole, in_span}

-- what a calendar owes of the sheets f that it reckons: its years are all that lie wholly in the span
pub record Years (a : Almanac) (f : ℕ → Sheet) : Type 0 where
  pub early : (y : ℕ) → y < a.lowest → (f y).first < 693000
  pub next : whole (f (a.highest + 1)) ≡ false
  pub late : (y : ℕ) → a.highest + 1 < y → 804001 < (f y).first

-- a year that has months is as f has it
pub as_reckoned : (f : ℕ → Sheet) (y : ℕ) → 0 < (in_span f y).months → in_span f y ≡ f y
as_reckoned f y h =
    ⊎_elim (λ t. cond-true (whole (f y)) (f y) empty_sheet t)
    (λ n. absurd (let z : ⊥ = omega (arith, ap (λ (s : Sheet). s.months) (cond-false (whole (f y)) (f y) empty_sheet n)) in z))
    (cases_Bool (whole (f y)))

module _ (a : Almanac) (f : ℕ → Sheet) (h : Years a f) where
  too_early : (y : ℕ) → y < a.lowest → whole (f y) ≡ false
  too_early y l = and_left (nat_le 693000 (f y).first) (nat_le ((f y).first + days_of (f y)) 804001) (lt-leb 693000 (f y).first (h.early y l))

  much_too_late : (y : ℕ) → a.highest + 1 < y → whole (f y) ≡ false
  much_too_late y l =
      let b = h.late y l in
      and_right (nat_le 693000 (f y).first) (nat_le ((f y).first + days_of (f y)) 804001) (lt-leb ((f y).first + days_of (f y)) 804001 (omega arith))

  too_late : (y : ℕ) → a.highest < y → whole (f y) ≡ false
  too_late y l = ⊎_elim (λ g. much_too_late y g) (λ g. let e : y ≡ a.highest + 1 = omega arith in rw e h.next) (cases_lt (a.highest + 1) y)

  pub silent : (y : ℕ) → (a.lowest ≤ y → y ≤ a.highest → ⊥) → in_span f y ≡ empty_sheet
  silent y n =
      cond-false (whole (f y)) (f y) empty_sheet
      (⊎_elim (λ l. too_early y l) (λ l. too_late y (omega (arith, cases_lt a.highest y, n l))) (cases_lt y a.lowest))
