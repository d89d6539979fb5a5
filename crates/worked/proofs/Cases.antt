-- The worked dates and days, by computing. For a date the month's place is given, and a test of the year's sheet does the
-- rest. For a rule's days only so many periods are looked at as there are up to the last of them.
-- The library has none of these: they are about almanacs and rules.
use Rattle.std.proofs.Common.{◌≡◌, ℕ, zero, suc, ◌+◌, ◌-◌, ◌<◌, ◌≤◌, Bool, true, false, cond, ◌&&◌, eqb, leb, List, [], ◌∷◌, length, Some, None, Option, sym, refl, ap, ◌∙◌, ⊎_elim, arith}
use Rattle.std.proofs.lemmas.Bool.{and_parts, and_from, leb-true, eqb-true, cases_lt}
use Rattle.days.specs.Months.{before, length_at}
use Rattle.days.specs.Numbers.{in_range}
use Rattle.calendar.specs.declared.sheet.Sheet.{Sheet}
use Rattle.calendar.specs.declared.dates.NamedDate.{NamedDate}
use Rattle.calendar.specs.Sheets.{Almanac, Stands, lengths_of, code_at}
use Rattle.calendar.specs.Dates.{Named}
use Rattle.calendar.specs.Laws.{Lawful}
use Rattle.calendars.specs.Gregorian.{gregorian}
use Rattle.calendars.specs.Hebrew.{hebrew}
use Rattle.calendars.specs.Laws.{gregorian_laws, hebrew_laws}
use Rattle.rules.specs.declared.parts.Frequency.TheVariants.{Yearly, Monthly}
use Rattle.rules.specs.declared.parts.Skip.TheVariants.{Omit, Backward, Forward}
use Rattle.rules.specs.declared.checked.Rule.{Rule}
use Rattle.rules.specs.Meaning.{Date, date_of, given_among, some_below, first_from, gives, counted_gives}
use Rattle.rules.proofs.Searching.{below_from, below_found}
use Rattle.rules.proofs.Dated.{date_found}
use Rattle.rules.proofs.Orderly.{counted_orderly}
use Rattle.rules.proofs.Given.{day_of, given_by, range_bounds, range_from, gives_bounds}
use Rattle.worked.specs.Dates.{AllHold, Holds, days, counted, and_then, firsts, bare, worked_dates}
use Rattle.worked.proofs.Counted.{same_truth, first_days}

-- the year has a month at place p, and the month a day d
abbrev has : Sheet → ℕ → ℕ → Bool
has s p d = (leb 1 p && leb p s.months) && ((leb p (length (lengths_of s)) && leb 1 d) && leb d (length_at (lengths_of s) p))

-- and that day is the day n
abbrev is_day : Sheet → ℕ → ℕ → ℕ → Bool
is_day s n p d = eqb n (s.first + before (lengths_of s) p + (d - 1))

stands_at : (a : Almanac) (n y p d : ℕ) → has (a.sheet y) p d ≡ true → is_day (a.sheet y) n p d ≡ true → Stands a n y p d
stands_at a n y p d h k =
    let s = a.sheet y in
    let ls = lengths_of s in
    let x = and_parts (leb 1 p && leb p s.months) ((leb p (length ls) && leb 1 d) && leb d (length_at ls p)) h in
    let y = and_parts (leb 1 p) (leb p s.months) x.0 in
    let z = and_parts (leb p (length ls) && leb 1 d) (leb d (length_at ls p)) x.1 in
    let w = and_parts (leb p (length ls)) (leb 1 d) z.0 in
    record {
      has = record { place_from = leb-true 1 p y.0; place_to = leb-true p (length ls) w.0; day_from = leb-true 1 d w.1; day_to = leb-true d (length_at ls p) z.1 };
      number = eqb-true n (s.first + before ls p + (d - 1)) k;
    }

at_place : (a : Almanac) (t : NamedDate) (n p : ℕ) → has (a.sheet t.year) p t.day ≡ true → is_day (a.sheet t.year) n p t.day ≡ true → code_at (a.sheet t.year) p ≡ t.code → Named a n t
at_place a t n p h k e =
    let s = a.sheet t.year in
    let ls = lengths_of s in
    let x = and_parts (leb 1 p && leb p s.months) ((leb p (length ls) && leb 1 t.day) && leb t.day (length_at ls p)) h in
    let y = and_parts (leb 1 p) (leb p s.months) x.0 in
    record {
      place = p;
      bears = record { from = leb-true 1 p y.0; to = leb-true p s.months y.1; same = e };
      stands = stands_at a n t.year p t.day h k;
    }

-- ── the days of a rule ──

then_same : (o : Option ℕ) (f g : ℕ → List ℕ) → ((n : ℕ) → f n ≡ g n) → and_then o f ≡ and_then o g
then_same None f g same = refl
then_same (Some d) f g same = ap (λ (ds : List ℕ). d ∷ ds) (same (d + 1))

first_same : (f g : ℕ → Bool) → ((n : ℕ) → f n ≡ g n) → (k n : ℕ) → first_from f k n ≡ first_from g k n
first_same f g same k zero = refl
first_same f g same k (suc n) =
    ap (λ (b : Bool). cond b (Some k) (first_from f (suc k) n)) (same k)
    ∙ ap (λ (o : Option ℕ). cond (g k) (Some k) o) (first_same f g same (suc k) n)

firsts_same : (f g : ℕ → Bool) → ((n : ℕ) → f n ≡ g n) → (c from : ℕ) → firsts c f from ≡ firsts c g from
firsts_same f g same zero from = refl
firsts_same f g same (suc c) from =
    ap (λ (o : Option ℕ). and_then o (firsts c f)) (first_same f g same from (803169 - from))
    ∙ then_same (first_from g from (803169 - from)) (firsts c f) (firsts c g) (firsts_same f g same c)

-- DTSTART has the date t; up to the day `last`, which the period k gives, the periods up to it suffice
module _ (a : Almanac) (r : Rule) (start : ℕ) (t : Date) (k last : ℕ) where
  abbrev among : Bool → ℕ → Bool
  among true n = (in_range n && leb start n) && some_below (λ i. counted_gives a r start t i n) (k + 1)
  among false n = gives a r start n

  abbrev quick : ℕ → Bool
  quick n = among (leb n last) n

  module _ (l : Lawful a) (ranged : in_range start ≡ true) (st : Stands a start t.year t.place t.day) (reached : counted_gives a r start t k last ≡ true) where
    dated : date_of a start ≡ Some t
    dated = date_found a l start t.year t.place t.day st

    there : (n : ℕ) → n ≤ last → gives a r start n ≡ true → among true n ≡ true
    there n le e =
        let p = and_parts (in_range n && leb start n) (given_among a r start (date_of a start) (n + 1 - start) n) e in
        let d = day_of a r start t dated n e in
        let f = λ (i : ℕ). counted_gives a r start t i n in
        and_from (in_range n && leb start n) (some_below f (k + 1)) p.0
        (⊎_elim
        (λ (lt : k < d.which).
        let u = (counted_orderly a l r start t ranged st).across k d.which last n lt reached d.by_period in
        let same : last ≡ n = omega arith in
        below_from f (k + 1) k (omega arith) (ap (λ (m : ℕ). counted_gives a r start t k m) (sym same) ∙ reached))
        (λ (ge : d.which ≤ k). below_from f (k + 1) d.which (omega arith) d.by_period)
        (cases_lt k d.which))

    back : (n : ℕ) → among true n ≡ true → gives a r start n ≡ true
    back n e =
        let f = λ (i : ℕ). counted_gives a r start t i n in
        let p = and_parts (in_range n && leb start n) (some_below f (k + 1)) e in
        let q = and_parts (in_range n) (leb start n) p.0 in
        let b = range_bounds n q.0 in
        let w = below_found f (k + 1) p.1 in
        given_by a r start t dated (counted_orderly a l r start t ranged st) n w.0 b.0 b.1 (leb-true start n q.1) w.2

    same_by : (b : Bool) (n : ℕ) → leb n last ≡ b → gives a r start n ≡ among b n
    same_by true n e = same_truth (gives a r start n) (among true n) (there n (leb-true n last e)) (back n)
    same_by false n e = refl

    by_periods : (c : ℕ) (ds : List ℕ) → firsts c quick start ≡ ds → firsts c (gives a r start) start ≡ ds
    by_periods c ds e = firsts_same (gives a r start) quick (λ n. same_by (leb n last) n refl) c start ∙ e

abbrev at : ℕ → ℕ → ℕ → Date
at y p d = record { year = y; place = p; day = d }

leap_day_forward : Holds (days gregorian (bare Yearly Forward) 734562 (734562 ∷ 734928 ∷ []))
leap_day_forward = by_periods gregorian (bare Yearly Forward) 734562 (at 2012 2 29) 1 734928 gregorian_laws refl (stands_at gregorian 734562 2012 2 29 refl refl) refl 2 _ refl

leap_day_omit : Holds (days gregorian (bare Yearly Omit) 734562 (734562 ∷ 736023 ∷ []))
leap_day_omit = by_periods gregorian (bare Yearly Omit) 734562 (at 2012 2 29) 4 736023 gregorian_laws refl (stands_at gregorian 734562 2012 2 29 refl refl) refl 2 _ refl

month_ends : Holds (days gregorian (bare Monthly Forward) 735264 (735264 ∷ 735293 ∷ 735323 ∷ 735354 ∷ []))
month_ends = by_periods gregorian (bare Monthly Forward) 735264 (at 2014 1 31) 3 735354 gregorian_laws refl (stands_at gregorian 735264 2014 1 31 refl refl) refl 4 _ refl

-- a rule gives no day before DTSTART and none outside the range, so the four days found are the first four of all
four_month_ends : Holds (counted gregorian (bare Monthly Forward) 735264 4 (735264 ∷ 735293 ∷ 735323 ∷ 735354 ∷ []))
four_month_ends =
    let b = gives_bounds gregorian (bare Monthly Forward) 735264 in
    first_days (gives gregorian (bare Monthly Forward) 735264) (λ d e. range_from d (b d e).1 (b d e).2) 4 735264 _ (λ d e. (b d e).0) month_ends refl

adar_forward : Holds (days hebrew (bare Yearly Forward) 735272 (735272 ∷ 735656 ∷ []))
adar_forward = by_periods hebrew (bare Yearly Forward) 735272 (at 5774 6 8) 1 735656 hebrew_laws refl (stands_at hebrew 735272 5774 6 8 refl refl) refl 2 _ refl

adar_backward : Holds (days hebrew (bare Yearly Backward) 735272 (735272 ∷ 735626 ∷ []))
adar_backward = by_periods hebrew (bare Yearly Backward) 735272 (at 5774 6 8) 1 735626 hebrew_laws refl (stands_at hebrew 735272 5774 6 8 refl refl) refl 2 _ refl

pub worked : AllHold worked_dates
worked = (at_place _ _ _ 2 refl refl refl, (at_place _ _ _ 6 refl refl refl, (at_place _ _ _ 1 refl refl refl, (leap_day_forward, (leap_day_omit, (four_month_ends, (adar_forward, (adar_backward, tt))))))))
