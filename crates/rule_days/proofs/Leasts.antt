-- The first day that a search through the periods finds is the rule's least from a day on.
-- The library has no calendars and no periods, so these lemmas are our own.
use Rattle.std.proofs.Common.{◌≡◌, ℕ, ◌+◌, ◌<◌, ◌≤◌, true, Some, subst, ⊎_elim, arith}
use Rattle.std.proofs.lemmas.Bool.{cases_lt}
use Rattle.days.specs.Numbers.{in_range}
use Rattle.calendar.specs.Sheets.{Almanac, Stands}
use Rattle.calendar.specs.Laws.{Lawful}
use Rattle.rules.specs.declared.checked.Rule.{Rule}
use Rattle.rules.specs.Meaning.{Date, date_of, counted_period, counted_gives, gives}
use Rattle.rule_days.specs.Onward.{GivesNone, NoneBefore, NoneFrom}
use Rattle.rules.proofs.Onward.{Present, first_day, counted_move}
use Rattle.rules.proofs.Orderly.{Orderly}
use Rattle.rules.proofs.Given.{day_of, given_by}

module _ (a : Almanac) (r : Rule) (start : ℕ) (t : Date) (low : ℕ) where
  pub none_more : (i : ℕ) → NoneBefore a r start t low i → GivesNone a r start t low i → NoneBefore a r start t low (i + 1)
  none_more i before here j lt =
      ⊎_elim (λ (c : j < i). before j c) (λ (c : i ≤ j). let e : i ≡ j = omega arith in subst (GivesNone a r start t low) e here) (cases_lt j i)

  -- no period gives a day: the rule has none
  pub none_left : date_of a start ≡ Some t → (i : ℕ) → NoneBefore a r start t low i → NoneFrom a r start t low i → (n : ℕ) → low ≤ n → gives a r start n ≡ true → ⊥
  none_left dated i before after n lo e =
      let p = day_of a r start t dated n e in
      ⊎_elim (λ (c : p.which < i). before p.which c n p.by_period lo p.high)
      (λ (c : i ≤ p.which). after p.which c n p.by_period lo p.high)
      (cases_lt p.which i)

  -- the least day of the first period that gives one is the rule's least
  pub least_found : date_of a start ≡ Some t → Orderly start (counted_gives a r start t) → start ≤ low → 693596 ≤ low → (i d : ℕ) → NoneBefore a r start t low i → counted_gives a r start t i d ≡ true → low ≤ d → d ≤ 803168 → ((n : ℕ) → counted_gives a r start t i n ≡ true → low ≤ n → n ≤ 803168 → d ≤ n) → (gives a r start d ≡ true) × ((n : ℕ) → low ≤ n → gives a r start n ≡ true → d ≤ n)
  least_found dated o late ranged i d before e lo hi least = (
    given_by a r start t dated o d i (omega arith) hi (omega arith) e,
    λ n from g.
        let p = day_of a r start t dated n g in
        let j = p.which in
        ⊎_elim (λ (c : j < i). absurd (before j c n p.by_period from p.high))
        (λ (c : i ≤ j).
        ⊎_elim (λ (v : i < j). o.across i j d n v e p.by_period)
        (λ (v : j ≤ i).
        let same : j ≡ i = omega arith in
        least n (subst (λ (x : ℕ). counted_gives a r start t x n ≡ true) same p.by_period) from p.high)
        (cases_lt i j))
        (cases_lt j i),
  )

-- ── where the search may begin, and where it is over ──

module _ (a : Almanac) (l : Lawful a) (r : Rule) (start : ℕ) (t : Date) (ranged : in_range start ≡ true) (st : Stands a start t.year t.place t.day) where
  -- no period before one that begins before `low` gives a day from `low` on
  pub none_skipped : (low i : ℕ) → Present a (counted_period a r start t i) → first_day a (counted_period a r start t i) < low → NoneBefore a r start t low i
  none_skipped low i q h j lt n e lo hi = let w = (counted_move a l r start t ranged st).up_to j i n lt q e in omega arith

  -- from a period on that is not there, or begins after the range, none gives a day of the range
  pub none_beyond : (low i : ℕ) → (Present a (counted_period a r start t i) → first_day a (counted_period a r start t i) ≤ 803168 → ⊥) → NoneFrom a r start t low i
  none_beyond low i over j le n e lo hi =
      let m = counted_move a l r start t ranged st in
      let f = m.from j n e in
      let w = m.onward i j le (m.present j n e) in
      over w.0 (omega (arith, w.1))
