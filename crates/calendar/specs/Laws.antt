-- The laws of calendars. A calendar is lawful when its almanac obeys them; that the date question agrees with the sheets
-- is the contract of that question.
use Rattle.std.specs.Prelude.{◌≡◌, ℕ, zero, suc, ◌+◌, ◌-◌, ◌^◌, ◌<◌, ◌≤◌, true, false, cond, ◌⊎◌, List, [], ◌∷◌, length, drop, replicate}
use Rattle.days.specs.Months.{length_at}
use Rattle.days.specs.Numbers.{InSpan}
use Rattle.calendar.specs.declared.sheet.MonthCode.{MonthCode}
use Rattle.calendar.specs.declared.sheet.Sheet.{Sheet}
use Rattle.calendar.specs.Sheets.{Almanac, Answered, Within, no_code, codes_of, lengths_of, days_of, code_at}

-- a sheet has thirteen places, and those that no month uses are zero
pub record Thirteen (s : Sheet) : Type 0 where
  pub all_codes : length s.codes ≡ 13
  pub all_lengths : length s.lengths ≡ 13
  pub unused_codes : drop s.months s.codes ≡ replicate (13 - s.months) no_code
  pub unused_lengths : drop s.months s.lengths ≡ replicate (13 - s.months) 0

-- the days that every calendar must answer
pub record Covered (n : ℕ) : Type 0 where
  pub from : 693384 ≤ n
  pub to : n ≤ 803616

-- the numbers of the codes that are no leap codes, in their order
abbrev pub plain_numbers : List MonthCode → List ℕ
plain_numbers [] = []
plain_numbers (c ∷ cs) = cond c.leap (plain_numbers cs) (c.number ∷ plain_numbers cs)

-- n numbers in turn, from k on
abbrev pub counted : ℕ → ℕ → List ℕ
counted k zero = []
counted k (suc n) = k ∷ counted (suc k) n

-- the leap code at place p is one that the calendar states, and stands directly after the plain code of its number
pub record LeapMonth (a : Almanac) (s : Sheet) (p : ℕ) : Type 0 where
  pub stated : a.leaps (code_at s p).number ≡ true
  pub second : 2 ≤ p
  pub same_number : (code_at s (p - 1)).number ≡ (code_at s p).number
  pub after_plain : (code_at s (p - 1)).leap ≡ false

pub record Lawful (a : Almanac) : Type 0 where
  -- 0. A sheet has thirteen places, unused ones zero. Years are numbers of 32 bits.
  pub thirteen : (y : ℕ) → Thirteen (a.sheet y)
  pub numbered : (y : ℕ) → Answered a y → y < 2 ^ 32
  -- 1. The answered years are consecutive: those from the lowest to the highest. All their days lie in the span,
  -- and each covered day lies in one of them.
  pub answers : (y : ℕ) → a.lowest ≤ y → y ≤ a.highest → Answered a y
  pub only : (y : ℕ) → Answered a y → (a.lowest ≤ y) × (y ≤ a.highest)
  pub in_span : (n y : ℕ) → Within a n y → InSpan n
  pub covers : (n : ℕ) → Covered n → (y : ℕ) × Within a n y
  -- 2. Each answered year begins on the day after the one before it ends.
  pub meets : (y : ℕ) → Answered a y → Answered a (y + 1) → (a.sheet (y + 1)).first ≡ (a.sheet y).first + days_of (a.sheet y)
  -- 3. A year has 12 or 13 months of 1 to 31 days each, together 350 to 385.
  pub months : (y : ℕ) → Answered a y → ((a.sheet y).months ≡ 12) ⊎ ((a.sheet y).months ≡ 13)
  pub month_days : (y p : ℕ) → Answered a y → 1 ≤ p → p ≤ (a.sheet y).months → (1 ≤ length_at (lengths_of (a.sheet y)) p) × (length_at (lengths_of (a.sheet y)) p ≤ 31)
  pub year_days : (y : ℕ) → Answered a y → (350 ≤ days_of (a.sheet y)) × (days_of (a.sheet y) ≤ 385)
  -- 4. The highest plain number is 12 or 13, and the plain codes up to it stand once each, rising. A leap code nL is
  -- stated only with n below the highest plain number, and stands only if stated, directly after n.
  pub twelve_or_thirteen : (a.top ≡ 12) ⊎ (a.top ≡ 13)
  pub plain_codes : (y : ℕ) → Answered a y → plain_numbers (codes_of (a.sheet y)) ≡ counted 1 a.top
  pub leap_stated : (n : ℕ) → a.leaps n ≡ true → (1 ≤ n) × (n < a.top)
  pub leap_codes : (y p : ℕ) → Answered a y → 1 ≤ p → p ≤ (a.sheet y).months → (code_at (a.sheet y) p).leap ≡ true → LeapMonth a (a.sheet y) p
