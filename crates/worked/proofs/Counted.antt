-- The first n days of a set are the days that n searches find, the first from a day before which the set has none, each
-- other from the day after the last one found.
-- The library has no sets of days and no counts of them.
use Rattle.std.proofs.Common.{◌≡◌, ℕ, zero, suc, ◌+◌, ◌-◌, ◌<◌, ◌≤◌, Bool, true, false, ◌&&◌, ltb, eqb, List, [], ◌∷◌, length, Some, None, Option, sym, refl, ap, ◌∙◌, subst, ⊎_elim, arith}
use Rattle.std.proofs.lemmas.Bool.{and_parts, and_from, or_left, or_right, or_cases, eqb-true, eq-eqb, ltb-true, lt-ltb, cases_lt, true≢false}
use Rattle.days.specs.Numbers.{in_range}
use Rattle.sources.specs.Sets.{DayOf, Least, Same, listed, first_n, count_below}
use Rattle.sources.proofs.Counts.{Walked, start, step, below_mono, walked_last}
use Rattle.rules.specs.Meaning.{first_from}
use Rattle.rules.proofs.Searching.{first_found, first_least}
use Rattle.worked.specs.Dates.{and_then, firsts}

pub same_truth : (x y : Bool) → (x ≡ true → y ≡ true) → (y ≡ true → x ≡ true) → x ≡ y
same_truth true y f g = sym (f refl)
same_truth false true f g = g refl
same_truth false false f g = refl

module _ (set : ℕ → Bool) (ranged : (d : ℕ) → set d ≡ true → in_range d ≡ true) where
  search_least : (from d : ℕ) → first_from set from (803169 - from) ≡ Some d → Least set from d
  search_least from d e =
      let f = first_found set (803169 - from) from d e in
      record {
        day = record { ranged = ranged d f.0; on = f.0 };
        late = f.1;
        least = λ m o h. ⊎_elim (λ (lt : m < d). absurd (true≢false (sym o.on ∙ first_least set (803169 - from) from d m e h lt))) (λ (ge : d ≤ m). ge) (cases_lt m d);
      }

  -- from `at` on, the list has just the days of the set with fewer than n before them
  record JustThese (n at : ℕ) (ds : List ℕ) : Type 0 where
    every : (d : ℕ) → DayOf set d → at ≤ d → count_below set d < n → listed ds d ≡ true
    only : (d : ℕ) → listed ds d ≡ true → (set d ≡ true) × (at ≤ d) × (count_below set d < n)

  none_more : (i at : ℕ) (last : Option ℕ) → Walked set i at last → JustThese (i + 0) at []
  none_more i at last w = record {
    every = λ d o h k. absurd (let z : ⊥ = omega (arith, w.counted, below_mono set at d h) in z);
    only = λ d t. absurd (true≢false (sym t));
  }

  one_more : (c i at : ℕ) (last : Option ℕ) (d : ℕ) (ds : List ℕ) → Walked set i at last → Least set at d → JustThese (i + 1 + c) (d + 1) ds → JustThese (i + suc c) at (d ∷ ds)
  one_more c i at last d ds w l j =
      let after = step set w l in
      let end = walked_last set {n = i + 1} (Some d) after (omega arith) (λ e o h. omega (arith, after.counted, below_mono set (d + 1) e h)) in
      record {
        every = λ e o h k.
            ⊎_elim
            (λ (lt : d < e). or_right (eqb d e) (listed ds e) (j.every e o (omega arith) (omega arith)))
            (λ (ge : e ≤ d). let same : d ≡ e = omega (arith, l.least e o h) in or_left (eqb d e) (listed ds e) (eq-eqb d e same))
            (cases_lt d e);
        only = λ e t.
            ⊎_elim
            (λ u.
            let same = eqb-true d e u in
            let few : count_below set d < i + suc c = omega (arith, end.among) in
            (subst (λ (x : ℕ). set x ≡ true) same l.day.on, omega (arith, l.late), subst (λ (x : ℕ). count_below set x < i + suc c) same few))
            (λ u. let p = j.only e u in (p.0, omega (arith, l.late, p.1), omega (arith, p.2)))
            (or_cases (eqb d e) (listed ds e) t);
      }

  one_search : (c i at from : ℕ) (last : Option ℕ) (o : Option ℕ) → first_from set from (803169 - from) ≡ o → Walked set i at last
      → at ≤ from → ((e : ℕ) → DayOf set e → at ≤ e → from ≤ e) → length (and_then o (firsts c set)) ≡ suc c
      → ((d : ℕ) → Walked set (i + 1) (d + 1) (Some d) → length (firsts c set (d + 1)) ≡ c → JustThese (i + 1 + c) (d + 1) (firsts c set (d + 1)))
      → JustThese (i + suc c) at (and_then o (firsts c set))
  one_search c i at from last None e w le free full more = absurd (let z : ⊥ = omega (arith, full) in z)
  one_search c i at from last (Some d) e w le free full more =
      let f = search_least from d e in
      let l : Least set at d = record { day = f.day; late = omega (arith, f.late); least = λ m o h. f.least m o (free m o h) } in
      one_more c i at last d (firsts c set (d + 1)) w l (more d (step set w l) (omega (arith, full)))

  searches : (c i at from : ℕ) (last : Option ℕ) → Walked set i at last → at ≤ from → ((e : ℕ) → DayOf set e → at ≤ e → from ≤ e) → length (firsts c set from) ≡ c → JustThese (i + c) at (firsts c set from)
  searches zero i at from last w le free full = none_more i at last w
  searches (suc c) i at from last w le free full =
      one_search c i at from last (first_from set from (803169 - from)) refl w le free full
      (λ d v f. searches c (i + 1) (d + 1) (d + 1) (Some d) v (omega arith) (λ e o h. h) f)

  pub first_days : (n from : ℕ) (ds : List ℕ) → ((d : ℕ) → set d ≡ true → from ≤ d) → firsts n set from ≡ ds → length ds ≡ n → Same (first_n set n) (listed ds)
  first_days n from ds free is full d r =
      let found = searches n 0 0 from None (start set) (omega arith) (λ e o h. free e o.on) (ap length is ∙ full) in
      let j = subst (JustThese (0 + n) 0) is found in
      same_truth (set d && ltb (count_below set d) n) (listed ds d)
      (λ t. let p = and_parts (set d) (ltb (count_below set d) n) t in j.every d (record { ranged = r; on = p.0 }) (omega arith) (omega (arith, ltb-true (count_below set d) n p.1)))
      (λ t. let p = j.only d t in and_from (set d) (ltb (count_below set d) n) p.0 (lt-ltb (count_below set d) n (omega (arith, p.2))))
