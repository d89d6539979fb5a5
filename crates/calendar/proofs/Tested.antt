-- From computed tests to the laws: an almanac whose years pass the tests, and that is silent outside them, is lawful.
-- The library has no laws of calendars, and none of the tests by which they are computed.
use Rattle.std.proofs.Common.{◌≡◌, ℕ, zero, suc, ◌+◌, ◌-◌, ◌^◌, ◌<◌, ◌≤◌, Bool, true, false, not, ◌&&◌, ◌||◌, eqb, ltb, leb, ◌⊎◌, List, [], ◌∷◌, length, get_or, drop, replicate, sym, refl, ap, ◌∙◌, subst, inl, inr, ⊎_elim, le_of_suc-le-suc, not-suc-le-zero, add-one, arith, length-drop, length-take-le}
use Rattle.std.specs.Str.{bytes_eq}
use Rattle.std.specs.List.{AllByRecursion, list_all}
use Rattle.std.proofs.ByRecursion.{All-get_or}
use Rattle.std.proofs.lemmas.Slice.Eq.{bytes_eq-Decides}
use Rattle.std.proofs.lemmas.Bool.{leb-true, ltb-true, eqb-true, and_parts, or_cases, cases_lt, both_ways, not-true}
use Rattle.calendar.specs.declared.sheet.MonthCode.{MonthCode}
use Rattle.calendar.specs.declared.sheet.Sheet.{Sheet}
use Rattle.calendar.specs.Sheets.{Almanac, Answered, Within, no_code, empty_sheet, codes_of, lengths_of, days_of}
use Rattle.calendar.specs.Laws.{Lawful, Thirteen, Covered, LeapMonth, plain_numbers, counted}

-- the test f passes at n numbers from y on
abbrev pub every : (ℕ → Bool) → ℕ → ℕ → Bool
every f y zero = true
every f y (suc n) = f y && every f (suc y) n

pub at_every : (f : ℕ → Bool) (n lo : ℕ) → every f lo n ≡ true → (y : ℕ) → lo ≤ y → y < lo + n → f y ≡ true
at_every f zero lo t y h k = absurd (let z : ⊥ = omega arith in z)
at_every f (suc n) lo t y h k =
    let parts = and_parts (f lo) (every f (suc lo) n) t in
    ⊎_elim (λ (l : lo < y). at_every f n (suc lo) parts.1 y (omega arith) (omega arith))
    (λ (g : y ≤ lo). let e : lo ≡ y = omega arith in subst (λ (m : ℕ). f m ≡ true) e parts.0)
    (cases_lt lo y)

-- what a test that passes at each element says of each
pub each : {X : Type 0} (f : X → Bool) (P : X → Type 0) → ((x : X) → f x ≡ true → P x) → (xs : List X) → list_all f xs ≡ true → AllByRecursion P xs
each f P says [] t = tt
each f P says (x ∷ xs) t = let parts = and_parts (f x) (list_all f xs) t in (says x parts.0, each f P says xs parts.1)

-- all tests of a list pass
abbrev pub passed : List Bool → Bool
passed ts = list_all (λ b. b) ts

pub each_passed : (ts : List Bool) → passed ts ≡ true → AllByRecursion (λ b. b ≡ true) ts
each_passed ts t = each (λ b. b) (λ b. b ≡ true) (λ b e. e) ts t

repeated : {X : Type 0} (x : X) (xs : List X) → AllByRecursion (λ y. y ≡ x) xs → xs ≡ replicate (length xs) x
repeated x [] h = refl
repeated x (y ∷ ys) h = ap (λ z. z ∷ ys) h.0 ∙ ap (λ zs. x ∷ zs) (repeated x ys h.1)

-- what stands from place n on in a list of thirteen, if it is x everywhere
rest : {X : Type 0} (x : X) (n : ℕ) (xs : List X) → length xs ≡ 13 → AllByRecursion (λ y. y ≡ x) (drop n xs) → drop n xs ≡ replicate (13 - n) x
rest x n xs e h = repeated x (drop n xs) h ∙ ap (λ m. replicate m x) (length-drop n xs ∙ ap (λ m. m - n) e)

-- The tests of a sheet.

twelve_or : (n : ℕ) → (eqb n 12 || eqb n 13) ≡ true → (n ≡ 12) ⊎ (n ≡ 13)
twelve_or n t = ⊎_elim (λ x. inl (eqb-true n 12 x)) (λ x. inr (eqb-true n 13 x)) (or_cases (eqb n 12) (eqb n 13) t)

abbrev month_long : ℕ → Bool
month_long n = leb 1 n && leb n 31

month_bounds : (n : ℕ) → month_long n ≡ true → (1 ≤ n) × (n ≤ 31)
month_bounds n t = let parts = and_parts (leb 1 n) (leb n 31) t in (leb-true 1 n parts.0, leb-true n 31 parts.1)

abbrev unused : MonthCode → Bool
unused c = eqb c.number 0 && not c.leap

abbrev code : ℕ → Bool → MonthCode
code n l = record { number = n; leap = l }

no_code_there : (c : MonthCode) → unused c ≡ true → c ≡ no_code
no_code_there c t =
    let parts = and_parts (eqb c.number 0) (not c.leap) t in
    ap (λ (n : ℕ). code n c.leap) (eqb-true c.number 0 parts.0) ∙ ap (code 0) (not-true c.leap parts.1)

-- c, if it is a leap code, is a stated one and follows the plain code of its number, b
pub record Follows (leaps : ℕ → Bool) (b c : MonthCode) : Type 0 where
  pub stated : leaps c.number ≡ true
  pub some : 1 ≤ c.number
  pub number : b.number ≡ c.number
  pub plain : b.leap ≡ false

abbrev follows_tests : (ℕ → Bool) → MonthCode → MonthCode → List Bool
follows_tests leaps b c = leaps c.number ∷ leb 1 c.number ∷ eqb b.number c.number ∷ not b.leap ∷ []

abbrev leap_placed : (ℕ → Bool) → MonthCode → MonthCode → Bool
leap_placed leaps b c = not c.leap || passed (follows_tests leaps b c)

-- the same of each code in a list and the one before it
abbrev leaps_placed : (ℕ → Bool) → MonthCode → List MonthCode → Bool
leaps_placed leaps b [] = true
leaps_placed leaps b (c ∷ cs) = leap_placed leaps b c && leaps_placed leaps c cs

follows : (leaps : ℕ → Bool) (b c : MonthCode) → leap_placed leaps b c ≡ true → c.leap ≡ true → Follows leaps b c
follows leaps b c t e =
    ⊎_elim (λ n. absurd (both_ways c.leap (not-true c.leap n) e))
    (λ r.
    let p = each_passed (follows_tests leaps b c) r in
    record {
      stated = p.0;
      some = leb-true 1 c.number p.1.0;
      number = eqb-true b.number c.number p.1.1.0;
      plain = not-true b.leap p.1.1.1.0;
    })
    (or_cases (not c.leap) (passed (follows_tests leaps b c)) t)

follows_at : (leaps : ℕ → Bool) (b : MonthCode) (cs : List MonthCode) → leaps_placed leaps b cs ≡ true → (k : ℕ) → k < length cs → (get_or cs k no_code).leap ≡ true → Follows leaps (get_or (b ∷ cs) k no_code) (get_or cs k no_code)
follows_at leaps b [] t k h e = absurd (not-suc-le-zero h)
follows_at leaps b (c ∷ cs) t zero h e = follows leaps b c (and_parts (leap_placed leaps b c) (leaps_placed leaps c cs) t).0 e
follows_at leaps b (c ∷ cs) t (suc k) h e =
    follows_at leaps c cs (and_parts (leap_placed leaps b c) (leaps_placed leaps c cs) t).1 k (le_of_suc-le-suc h) e

-- k is the place p, counted from 0
leap_month : (a : Almanac) (s : Sheet) (p k : ℕ) → k ≡ p - 1 → 1 ≤ p → Follows a.leaps (get_or (no_code ∷ codes_of s) k no_code) (get_or (codes_of s) k no_code) → LeapMonth a s p
leap_month a s p zero e h f = absurd (let z : ⊥ = omega (arith, f.some, f.number) in z)
leap_month a s p (suc q) e h f =
    let d : q ≡ p - 1 - 1 = omega arith in
    let at = λ (m : ℕ). get_or (codes_of s) m no_code in
    record {
      stated = subst (λ (m : ℕ). a.leaps (at m).number ≡ true) e f.stated;
      second = omega arith;
      same_number = sym (ap (λ (m : ℕ). (at m).number) d) ∙ f.number ∙ ap (λ (m : ℕ). (at m).number) e;
      after_plain = subst (λ (m : ℕ). (at m).leap ≡ false) d f.plain;
    }

abbrev pub sheet_tests : (ℕ → Bool) → ℕ → Sheet → List Bool
sheet_tests leaps top s =
    (eqb s.months 12 || eqb s.months 13)
    ∷ eqb (length s.codes) 13
    ∷ eqb (length s.lengths) 13
    ∷ list_all unused (drop s.months s.codes)
    ∷ list_all (λ n. eqb n 0) (drop s.months s.lengths)
    ∷ list_all month_long (lengths_of s)
    ∷ leb 350 (days_of s)
    ∷ leb (days_of s) 385
    ∷ leb 693000 s.first
    ∷ leb (s.first + days_of s) 804001
    ∷ bytes_eq (plain_numbers (codes_of s)) (counted 1 top)
    ∷ leaps_placed leaps no_code (codes_of s)
    ∷ []

-- what the tests say of a sheet
pub record Good (leaps : ℕ → Bool) (top : ℕ) (s : Sheet) : Type 0 where
  pub months : (s.months ≡ 12) ⊎ (s.months ≡ 13)
  pub thirteen : Thirteen s
  pub lengths : AllByRecursion (λ n. (1 ≤ n) × (n ≤ 31)) (lengths_of s)
  pub long : 350 ≤ days_of s
  pub short : days_of s ≤ 385
  pub from : 693000 ≤ s.first
  pub to : s.first + days_of s ≤ 804001
  pub plain : plain_numbers (codes_of s) ≡ counted 1 top
  pub leap : leaps_placed leaps no_code (codes_of s) ≡ true

good : (leaps : ℕ → Bool) (top : ℕ) (s : Sheet) → passed (sheet_tests leaps top s) ≡ true → Good leaps top s
good leaps top s t =
    let t0 = each_passed (sheet_tests leaps top s) t in
    let t3 = t0.1.1.1 in
    let t6 = t3.1.1.1 in
    let t9 = t6.1.1.1 in
    let c = eqb-true (length s.codes) 13 t0.1.0 in
    let l = eqb-true (length s.lengths) 13 t0.1.1.0 in
    record {
      months = twelve_or s.months t0.0;
      thirteen =
          record {
            all_codes = c;
            all_lengths = l;
            unused_codes = rest no_code s.months s.codes c (each unused (λ x. x ≡ no_code) no_code_there _ t3.0);
            unused_lengths = rest 0 s.months s.lengths l (each (λ n. eqb n 0) (λ n. n ≡ 0) (λ n. eqb-true n 0) _ t3.1.0);
          };
      lengths = each month_long (λ n. (1 ≤ n) × (n ≤ 31)) month_bounds (lengths_of s) t3.1.1.0;
      long = leb-true 350 (days_of s) t6.0;
      short = leb-true (days_of s) 385 t6.1.0;
      from = leb-true 693000 s.first t6.1.1.0;
      to = leb-true (s.first + days_of s) 804001 t9.0;
      plain = (bytes_eq-Decides (plain_numbers (codes_of s)) (counted 1 top)).0 t9.1.0;
      leap = t9.1.1.0;
    }

empty_thirteen : Thirteen empty_sheet
empty_thirteen = record { all_codes = refl; all_lengths = refl; unused_codes = refl; unused_lengths = refl }

abbrev pub year_passes : Almanac → ℕ → Bool
year_passes a y = passed (sheet_tests a.leaps a.top (a.sheet y))

abbrev pub next_meets : Almanac → ℕ → Bool
next_meets a y = eqb (a.sheet (suc y)).first ((a.sheet y).first + days_of (a.sheet y))

abbrev pub bounds : Almanac → List Bool
bounds a =
    leb a.lowest a.highest
    ∷ ltb a.highest (2 ^ 32)
    ∷ (eqb a.top 12 || eqb a.top 13)
    ∷ leb (a.sheet a.lowest).first 693384
    ∷ ltb 803616 ((a.sheet a.highest).first + days_of (a.sheet a.highest))
    ∷ []

-- all that a calendar shows by computing
abbrev pub tests : Almanac → List Bool
tests a =
    passed (bounds a)
    ∷ every (year_passes a) a.lowest (a.highest + 1 - a.lowest)
    ∷ every (next_meets a) a.lowest (a.highest - a.lowest)
    ∷ []

-- what a calendar owes: its leap codes, its silence outside its years, and that the tests pass
pub record Tested (a : Almanac) : Type 0 where
  pub leaps : (n : ℕ) → a.leaps n ≡ true → (1 ≤ n) × (n < a.top)
  pub silent : (y : ℕ) → (a.lowest ≤ y → y ≤ a.highest → ⊥) → a.sheet y ≡ empty_sheet
  pub computed : passed (tests a) ≡ true

module _ (a : Almanac) (t : Tested a) where
  parts : AllByRecursion (λ b. b ≡ true) (tests a)
  parts = each_passed (tests a) t.computed

  bound : AllByRecursion (λ b. b ≡ true) (bounds a)
  bound = each_passed (bounds a) parts.0

  ordered : a.lowest ≤ a.highest
  ordered = leb-true a.lowest a.highest bound.0

  -- a year stands among the answered ones, or its sheet is empty
  among : (y : ℕ) → ((a.lowest ≤ y) × (y ≤ a.highest)) ⊎ (a.sheet y ≡ empty_sheet)
  among y =
      ⊎_elim (λ (l : y < a.lowest). inr (t.silent y (λ h k. omega arith)))
      (λ (h : a.lowest ≤ y).
      ⊎_elim (λ (l : a.highest < y). inr (t.silent y (λ h k. omega arith))) (λ (k : y ≤ a.highest). inl (h, k)) (cases_lt a.highest y))
      (cases_lt y a.lowest)

  in_years : (y : ℕ) → Answered a y → (a.lowest ≤ y) × (y ≤ a.highest)
  in_years y h =
      ⊎_elim (λ b. b) (λ e. absurd (let z : ⊥ = omega (arith, ap (λ (s : Sheet). s.months) e) in z)) (among y)

  good_in : (y : ℕ) → a.lowest ≤ y → y ≤ a.highest → Good a.leaps a.top (a.sheet y)
  good_in y h k =
      let o = ordered in
      good a.leaps a.top (a.sheet y) (at_every (year_passes a) (a.highest + 1 - a.lowest) a.lowest parts.1.0 y h (omega arith))

  good_of : (y : ℕ) → Answered a y → Good a.leaps a.top (a.sheet y)
  good_of y h = let s = in_years y h in good_in y s.0 s.1

  answers : (y : ℕ) → a.lowest ≤ y → y ≤ a.highest → Answered a y
  answers y h k = ⊎_elim (λ e. omega arith) (λ e. omega arith) (good_in y h k).months

  thirteen : (y : ℕ) → Thirteen (a.sheet y)
  thirteen y = ⊎_elim (λ b. (good_in y b.0 b.1).thirteen) (λ e. subst Thirteen (sym e) empty_thirteen) (among y)

  -- the months that an answered year has stand on its sheet
  months_fit : (y : ℕ) → Answered a y → (a.sheet y).months ≤ 13
  months_fit y h = ⊎_elim (λ e. omega arith) (λ e. omega arith) (good_of y h).months

  how_many_lengths : (y : ℕ) → Answered a y → length (lengths_of (a.sheet y)) ≡ (a.sheet y).months
  how_many_lengths y h =
      let m = months_fit y h in
      length-take-le (a.sheet y).months (a.sheet y).lengths (omega (arith, (thirteen y).all_lengths))

  how_many_codes : (y : ℕ) → Answered a y → length (codes_of (a.sheet y)) ≡ (a.sheet y).months
  how_many_codes y h =
      let m = months_fit y h in
      length-take-le (a.sheet y).months (a.sheet y).codes (omega (arith, (thirteen y).all_codes))

  link : (y : ℕ) → a.lowest ≤ y → y < a.highest → (a.sheet (suc y)).first ≡ (a.sheet y).first + days_of (a.sheet y)
  link y h k =
      eqb-true (a.sheet (suc y)).first ((a.sheet y).first + days_of (a.sheet y))
      (at_every (next_meets a) (a.highest - a.lowest) a.lowest parts.1.1.0 y h (omega arith))

  -- each day from the beginning of the lowest year to the end of the year k years later lies in a year
  reached : (k : ℕ) → a.lowest + k ≤ a.highest → (n : ℕ) → (a.sheet a.lowest).first ≤ n → n < (a.sheet (a.lowest + k)).first + days_of (a.sheet (a.lowest + k)) → (y : ℕ) × Within a n y
  reached zero h n f g =
      let e : a.lowest + 0 ≡ a.lowest = omega arith in
      let g' = subst (λ (m : ℕ). n < (a.sheet m).first + days_of (a.sheet m)) e g in
      (a.lowest, record { answered = answers a.lowest (omega arith) (omega arith); from = f; to = g' })
  reached (suc k) h n f g =
      let e : a.lowest + suc k ≡ suc (a.lowest + k) = omega arith in
      let j = link (a.lowest + k) (omega arith) (omega arith) in
      ⊎_elim
      (λ (l : n < (a.sheet (a.lowest + suc k)).first).
      let l' = subst (λ (m : ℕ). n < (a.sheet m).first) e l in
      reached k (omega arith) n f (omega arith))
      (λ (l : (a.sheet (a.lowest + suc k)).first ≤ n).
      (a.lowest + suc k, record { answered = answers (a.lowest + suc k) (omega arith) h; from = l; to = g }))
      (cases_lt n (a.sheet (a.lowest + suc k)).first)

  covers : (n : ℕ) → Covered n → (y : ℕ) × Within a n y
  covers n c =
      let o = ordered in
      let b = leb-true (a.sheet a.lowest).first 693384 bound.1.1.1.0 in
      let e : a.highest ≡ a.lowest + (a.highest - a.lowest) = omega arith in
      let u = ltb-true 803616 ((a.sheet a.highest).first + days_of (a.sheet a.highest)) bound.1.1.1.1.0 in
      let v = subst (λ (m : ℕ). 803616 < (a.sheet m).first + days_of (a.sheet m)) e u in
      reached (a.highest - a.lowest) (omega arith) n (omega arith) (omega arith)

  pub lawful : Lawful a
  lawful =
      record {
        thirteen = thirteen;
        numbered = λ y h. let s = in_years y h in omega (arith, ltb-true a.highest (2 ^ 32) bound.1.0);
        answers = answers;
        only = in_years;
        in_span = λ n y w.
            let g = good_of y w.answered in
            record { from = omega (arith, g.from, w.from); to = omega (arith, g.to, w.to) };
        covers = covers;
        meets = λ y h k.
            let b = in_years y h in
            let d = in_years (y + 1) k in
            rw add-one (link y b.0 (omega arith));
        months = λ y h. (good_of y h).months;
        month_days = λ y p h f g.
            let e = how_many_lengths y h in
            All-get_or (λ n. (1 ≤ n) × (n ≤ 31)) (lengths_of (a.sheet y)) (p - 1) 0 (omega arith) (good_of y h).lengths;
        year_days = λ y h. ((good_of y h).long, (good_of y h).short);
        twelve_or_thirteen = twelve_or a.top bound.1.1.0;
        plain_codes = λ y h. (good_of y h).plain;
        leap_stated = t.leaps;
        leap_codes = λ y p h f g l.
            let e = how_many_codes y h in
            leap_month a (a.sheet y) p (p - 1) refl f
            (follows_at a.leaps no_code (codes_of (a.sheet y)) (good_of y h).leap (p - 1) (omega arith) l);
      }
