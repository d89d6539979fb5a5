-- A rule's test of a day says what its words say, over any lawful almanac and from any day of the range.
-- The library has no calendars and no periods, so these lemmas are our own.
use Rattle.std.proofs.Common.{◌≡◌, ℕ, ◌+◌, ◌-◌, ◌≤◌, true, ◌&&◌, leb, Some, Option, sym, ap, ◌∙◌, subst, arith}
use Rattle.std.proofs.lemmas.Bool.{and_from, and_parts, le-leb, leb-true}
use Rattle.days.specs.Numbers.{in_range}
use Rattle.calendar.specs.Sheets.{Almanac, Stands}
use Rattle.calendar.specs.Laws.{Lawful}
use Rattle.calendar.proofs.Following.{given}
use Rattle.rules.specs.declared.checked.Rule.{Rule}
use Rattle.rules.specs.Meaning.{Date, date_of, period_gives, counted_period, counted_gives, given_among, gives, RulesSay}
use Rattle.rules.proofs.Searching.{below_from, below_found}
use Rattle.rules.proofs.Dated.{date_found}
use Rattle.rules.proofs.Orderly.{Orderly, counted_orderly}

pub range_bounds : (n : ℕ) → in_range n ≡ true → (693596 ≤ n) × (n ≤ 803168)
range_bounds n e =
    let p = and_parts (leb 693596 n) (leb n 803168) e in
    (leb-true 693596 n p.0, leb-true n 803168 p.1)

pub range_from : (n : ℕ) → 693596 ≤ n → n ≤ 803168 → in_range n ≡ true
range_from n h k = and_from (leb 693596 n) (leb n 803168) (le-leb 693596 n h) (le-leb n 803168 k)

-- a day of the range has a date
pub date_in_range : (a : Almanac) → Lawful a → (n : ℕ) → in_range n ≡ true → (t : Date) × Stands a n t.year t.place t.day
date_in_range a l n e =
    let b = range_bounds n e in
    let o = given.one_date_a_day a l n (record { from = omega arith; to = omega arith }) in
    (record { year = o.year; place = o.place; day = o.day }, o.stands)

-- a rule gives days of the range only, from DTSTART on
pub gives_bounds : (a : Almanac) (r : Rule) (start n : ℕ) → gives a r start n ≡ true → (start ≤ n) × (693596 ≤ n) × (n ≤ 803168)
gives_bounds a r start n e =
    let p = and_parts (in_range n && leb start n) (given_among a r start (date_of a start) (n + 1 - start) n) e in
    let q = and_parts (in_range n) (leb start n) p.0 in
    let b = range_bounds n q.0 in
    (leb-true start n q.1, b.0, b.1)

-- ── DTSTART is the day `start`, of the date t ──

-- what a day that the rule gives is
pub record DayOf (a : Almanac) (r : Rule) (start : ℕ) (t : Date) (n : ℕ) : Type 0 where
  pub low : 693596 ≤ n
  pub high : n ≤ 803168
  pub not_before : start ≤ n
  pub which : ℕ
  pub by_period : counted_gives a r start t which n ≡ true

module _ (a : Almanac) (r : Rule) (start : ℕ) (t : Date) (dated : date_of a start ≡ Some t) where
  pub day_of : (n : ℕ) → gives a r start n ≡ true → DayOf a r start t n
  day_of n e =
      let p = and_parts (in_range n && leb start n) (given_among a r start (date_of a start) (n + 1 - start) n) e in
      let b = gives_bounds a r start n e in
      let w = below_found (λ i. counted_gives a r start t i n) (n + 1 - start) (sym (ap (λ (o : Option Date). given_among a r start o (n + 1 - start) n) dated) ∙ p.1) in
      record { low = b.1; high = b.2; not_before = b.0; which = w.0; by_period = w.2 }

  module _ (o : Orderly start (counted_gives a r start t)) where
    pub given_by : (n i : ℕ) → 693596 ≤ n → n ≤ 803168 → start ≤ n → counted_gives a r start t i n ≡ true → gives a r start n ≡ true
    given_by n i lo hi late e =
        let h = o.enough i n e late in
        and_from (in_range n && leb start n) (given_among a r start (date_of a start) (n + 1 - start) n)
        (and_from (in_range n) (leb start n) (range_from n lo hi) (le-leb start n late))
        (ap (λ (x : Option Date). given_among a r start x (n + 1 - start) n) dated ∙ below_from (λ i. counted_gives a r start t i n) (n + 1 - start) i (omega arith) e)

pub rules_say : RulesSay
rules_say a l r start n ranged =
    let d = date_in_range a l start ranged in
    let t = d.0 in
    let dated = date_found a l start t.year t.place t.day d.1 in (
      λ e.
          let p = day_of a r start t dated n e in
          record {
            ranged = range_from n p.low p.high;
            not_before = p.not_before;
            date = t;
            dated = dated;
            which = p.which;
            given = p.by_period;
          },
      λ g.
          let same : g.date ≡ t = (let e = sym g.dated ∙ dated in cc) in
          let b = range_bounds n g.ranged in
          given_by a r start t dated (counted_orderly a l r start t ranged d.1) n g.which b.0 b.1 g.not_before
          (subst (λ (x : Date). period_gives a r start x (counted_period a r start x g.which) n ≡ true) same g.given),
    )
