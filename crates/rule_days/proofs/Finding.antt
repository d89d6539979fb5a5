-- A search through periods and their days: what is left of a period's days in the queue, and what the search finds.
-- The library has no calendars and no periods, so these lemmas are our own.
use Rattle.std.proofs.Common.{◌≡◌, ℕ, ◌+◌, ◌*◌, ◌<◌, ◌≤◌, Bool, true, false, ltb, leb, List, [], ◌∷◌, Some, None, sym, refl, subst, ⊎_elim, not-suc-le-zero, arith}
use Rattle.std.specs.List.{ContainsAt as Has}
use Rattle.std.proofs.lemmas.List.Sorted.{IsPermutation-sym}
use Rattle.std.proofs.lemmas.Bool.{cases_lt, cond_both, leb-true, leb-false, ltb-true, ltb-false}
use Rattle.days.specs.Numbers.{in_range, remainder}
use Rattle.calendar.specs.Sheets.{Almanac, Stands}
use Rattle.calendar.specs.Laws.{Lawful}
use Rattle.calendar.proofs.Years.{stands_within}
use Rattle.calendar.proofs.Naming.{month_of}
use Rattle.queue.specs.Lent.{Holding, LeastTaken}
use Rattle.queue.proofs.Members.{with_keeps, with_only}
use Rattle.sources.specs.Sets.{Found}
use Rattle.rules.specs.declared.checked.Rule.{Rule}
use Rattle.rules.specs.declared.parts.Frequency.{Frequency}
use Rattle.rules.specs.declared.parts.Frequency.TheVariants.{Yearly, Monthly, Weekly, Daily}
use Rattle.rules.specs.declared.period.Period.{Period}
use Rattle.rules.specs.declared.period.Period.TheVariants.{Year, Month, Week, Day}
use Rattle.rules.specs.Meaning.{Date, date_of, month_after, week_of, period_of, counted_period, counted_gives, period_gives, gives}
use Rattle.rule_days.specs.Onward.{GivesNone, NoneBefore, NoneFrom, Reached, reachable, not_after, Placed}
use Rattle.rules.proofs.Dated.{date_found}
use Rattle.rules.proofs.Monthly.{month_stands}
use Rattle.rule_days.proofs.Sized.{usable}
use Rattle.rules.proofs.Onward.{Present, first_day, counted_move}
use Rattle.rules.proofs.Orderly.{counted_orderly}
use Rattle.rules.proofs.Given.{range_bounds, range_from}
use Rattle.rule_days.proofs.Leasts.{none_more, none_left, least_found, none_beyond}

-- what is left of a period's days: days that the period gives, with all of them from `low` on
pub record Left (days : List ℕ) (f : ℕ → Bool) (low : ℕ) : Type 0 where
  pub only : (n : ℕ) → Has days n → f n ≡ true
  pub all : (n : ℕ) → f n ≡ true → low ≤ n → Has days n

no_entry : (days : List ℕ) (n : ℕ) → days ≡ [] → Has days n → ⊥
no_entry days n e h = not-suc-le-zero (subst (λ (xs : List ℕ). Has xs n) e h).1

-- a day before `low` is taken out
pub left_less : (old new : Holding ℕ) (d : ℕ) (f : ℕ → Bool) (low : ℕ) → Left old.entries f low → LeastTaken ltb old new d → d < low → Left new.entries f low
left_less old new d f low x t b =
    let back = IsPermutation-sym old.entries (d ∷ new.entries) t.others in
    record {
      only = λ n m. x.only n (with_keeps d new.entries old.entries back n m);
      all = λ n g late.
          ⊎_elim (λ (e : d ≡ n). absurd (let z : ⊥ = omega arith in z)) (λ m. m)
          (with_only d new.entries old.entries back n (x.all n g late));
    }

-- the first day at or after `low` is the period's least from `low` on
pub left_least : (old new : Holding ℕ) (d : ℕ) (f : ℕ → Bool) (low : ℕ) → Left old.entries f low → LeastTaken ltb old new d → (f d ≡ true) × ((n : ℕ) → f n ≡ true → low ≤ n → d ≤ n)
left_least old new d f low x t =
    (x.only d t.least.among, λ n g late. ltb-false n d (t.least.first n (x.all n g late)))

-- nothing is left
pub left_none : (days : List ℕ) (f : ℕ → Bool) (low : ℕ) → Left days f low → days ≡ [] → (n : ℕ) → f n ≡ true → low ≤ n → ⊥
left_none days f low x e n g late = no_entry days n e (x.all n g late)

module _ (a : Almanac) (l : Lawful a) (r : Rule) (start : ℕ) (t : Date) (ranged : in_range start ≡ true) (st : Stands a start t.year t.place t.day) where
  -- a period that is out of reach ends the search
  out_of_reach : (p : Period) → reachable a p ≡ false → Present a p → first_day a p ≤ 803168 → ⊥
  out_of_reach (Year y) e q h = let z = ltb-false 0 (a.sheet y).months e in omega arith
  out_of_reach (Month y p) e q h = let z = ltb-false 0 (a.sheet y).months e in omega arith
  out_of_reach (Week b) e q h = let z = leb-false b 803168 e in omega arith
  out_of_reach (Day d) e q h = let z = leb-false d 803168 e in omega arith

  -- a period in reach is placed, and begins among the days of calendars
  placed_of : (q : Frequency) (k : ℕ) → reachable a (period_of q a r start t k) ≡ true → Placed a (period_of q a r start t k) × (Present a (period_of q a r start t k) × (first_day a (period_of q a r start t k) ≤ 804000))
  placed_of Yearly k e =
      let h = ltb-true 0 (a.sheet (t.year + k)).months e in
      (h, (h, (usable a l (t.year + k) h).first))
  placed_of Monthly k e =
      let m = month_after a (t.year, t.place) k in
      let h = ltb-true 0 (a.sheet m.0).months e in
      let o = month_of a start t.year t.place t.day st in
      let s = month_stands a l t.year t.place (stands_within a start t.year t.place t.day st).answered o.0 o.1 k in
      ((h, s.place_from), (h, (usable a l m.0 h).from m.1 s.place_from (s.place_to h)))
  placed_of Weekly k e = let h = leb-true (week_of (remainder r.parts.week_start) start + 7 * k) 803168 e in (omega arith, (tt, omega arith))
  placed_of Daily k e = let h = leb-true (start + k) 803168 e in (omega arith, (tt, omega arith))

  module _ (low : ℕ) (late : start ≤ low) (p : Period) (x : Reached a r start t low p) where
    pub in_reach_placed : reachable a p ≡ true → Placed a p
    in_reach_placed e =
        subst (Placed a) (sym x.counts) (placed_of r.parts.frequency (x.which * r.parts.interval) (subst (λ (q : Period). reachable a q ≡ true) x.counts e)).0

    -- there are no more periods than days
    pub which_few : reachable a p ≡ true → x.which ≤ 804000
    which_few e =
        let o = (placed_of r.parts.frequency (x.which * r.parts.interval) (subst (λ (q : Period). reachable a q ≡ true) x.counts e)).1 in
        let f = o.1 in
        ⊎_elim (λ (c : 0 < x.which). let b = (counted_move a l r start t ranged st).begins x.which c o.0 in omega arith)
        (λ (c : x.which ≤ 0). omega arith)
        (cases_lt 0 x.which)

    none_here : ((n : ℕ) → period_gives a r start t p n ≡ true → low ≤ n → ⊥) → GivesNone a r start t low x.which
    none_here none n e from _ = none n (subst (λ (q : Period). period_gives a r start t q n ≡ true) (sym x.counts) e) from

    -- the period gives nothing more, and the search goes on
    pub reached_next : ((n : ℕ) → period_gives a r start t p n ≡ true → low ≤ n → ⊥) → (q : Period) → q ≡ counted_period a r start t (x.which + 1) → (y : Reached a r start t low q) × (y.which ≡ x.which + 1)
    reached_next none q e =
        (record { which = x.which + 1; counts = e; before = none_more a r start t low x.which x.before (none_here none) }, refl)

    dated : date_of a start ≡ Some t
    dated = date_found a l start t.year t.place t.day st

    -- nothing is found
    found_none : (i : ℕ) → NoneBefore a r start t low i → NoneFrom a r start t low i → Found (gives a r start) low None
    found_none i before after n d from = none_left a r start t low dated i before after n from d.on

    pub over_found : reachable a p ≡ false → Found (gives a r start) low None
    over_found e =
        found_none x.which x.before
        (none_beyond a l r start t ranged st low x.which (out_of_reach (counted_period a r start t x.which) (subst (λ (q : Period). reachable a q ≡ false) x.counts e)))

    pub last_found : ((n : ℕ) → period_gives a r start t p n ≡ true → low ≤ n → ⊥) → NoneFrom a r start t low (x.which + 1) → Found (gives a r start) low None
    last_found none after = found_none (x.which + 1) (none_more a r start t low x.which x.before (none_here none)) after

    -- a day is found: the least, or after the range
    pub day_found : (d : ℕ) → period_gives a r start t p d ≡ true → low ≤ d → ((n : ℕ) → period_gives a r start t p n ≡ true → low ≤ n → d ≤ n) → Found (gives a r start) low (not_after d)
    day_found d e from least =
        let o = counted_orderly a l r start t ranged st in
        let i = x.which in
        let s = range_bounds start ranged in
        let low-ranged = s.0 in
        let here : counted_gives a r start t i d ≡ true = subst (λ (q : Period). period_gives a r start t q d ≡ true) x.counts e in
        let back : (n : ℕ) → counted_gives a r start t i n ≡ true → period_gives a r start t p n ≡ true =
        λ n g. subst (λ (q : Period). period_gives a r start t q n ≡ true) (sym x.counts) g in
        cond_both (leb d 803168) (Some d) None (Found (gives a r start) low)
        (λ h.
        let hi = leb-true d 803168 h in
        let f = least_found a r start t low dated o late (omega arith) i d x.before here from hi (λ n g lo _. least n (back n g) lo) in
        record {
          day = record { ranged = range_from d (omega arith) hi; on = f.0 };
          late = from;
          least = λ n g lo. f.1 n lo g.on;
        })
        (λ h.
        let hi = leb-false d 803168 h in
        found_none i x.before
        (λ j le n g lo top.
        ⊎_elim (λ (c : i < j). let w = o.across i j d n c here g in omega arith)
        (λ (c : j ≤ i).
        let same : j ≡ i = omega arith in
        let w = least n (back n (subst (λ (k : ℕ). counted_gives a r start t k n ≡ true) same g)) lo in
        omega arith)
        (cases_lt i j)))
