-- How many days of a set are before a day, and the last of the first n days of a set.
-- The library counts elements of lists, and no numbers that pass a test below another.
use Rattle.std.proofs.Common.{◌≡◌, ℕ, zero, suc, ◌+◌, ◌-◌, ◌<◌, ◌≤◌, Bool, true, false, ◌&&◌, ltb, leb, Some, None, Option, refl, ap, ◌∙◌, ⊎_elim, add-zero, add-suc, add-one, arith, MatchOption}
use Rattle.std.proofs.lemmas.Bool.{cases_Bool, cases_lt, and_from, and_parts}
use Rattle.std.proofs.lemmas.Bool.Decides.{nat_tests}
use Rattle.days.specs.Numbers.{in_range}
use Rattle.sources.specs.Sets.{DayOf, Least, Last, LastOf, Same, until, first_n, count_below}

same_tests : (a b c d : ℕ) → (a ≤ b → c < d) → (c < d → a ≤ b) → leb a b ≡ ltb c d
same_tests a b c d there back = grind (arith, nat_tests)

-- the range begins after 0
past_zero : (e : ℕ) → in_range e ≡ true → 0 < e
past_zero e r = grind (arith, nat_tests)

module _ (set : ℕ → Bool) where
  -- a day of the set is counted directly after it
  below_on : (d : ℕ) → DayOf set d → count_below set (d + 1) ≡ count_below set d + 1
  unfolding count_below
  below_on d o = let on = and_from (in_range d) (set d) o.ranged o.on in rw (add-one d, on)

  -- any other day is not
  below_off : (d : ℕ) → (DayOf set d → ⊥) → count_below set (d + 1) ≡ count_below set d
  unfolding count_below
  below_off d free =
      ⊎_elim (λ t. let p = and_parts (in_range d) (set d) t in absurd (free (record { ranged = p.0; on = p.1 })))
      (λ (off : (in_range d && set d) ≡ false). rw (add-one d, off) (omega arith)) (cases_Bool (in_range d && set d))

  below_rises : (k j : ℕ) → count_below set k ≤ count_below set (k + j)
  unfolding count_below
  below_rises k zero = simp add-zero (omega arith)
  below_rises k (suc j) = let h = below_rises k j in simp add-suc (omega arith)

  below_stays : (k j : ℕ) → ((i : ℕ) → i < j → DayOf set (k + i) → ⊥) → count_below set (k + j) ≡ count_below set k
  below_stays k zero none = simp add-zero
  below_stays k (suc j) none =
      let e : k + suc j ≡ k + j + 1 = omega arith in
      rw e (below_off (k + j) (none j (omega arith)) ∙ below_stays k j (λ i l. none i (omega arith)))

  -- before a later day are no fewer
  pub below_mono : (a b : ℕ) → a ≤ b → count_below set a ≤ count_below set b
  below_mono a b h = let e : a + (b - a) ≡ b = omega arith in rw e at (below_rises a (b - a))

  -- from a day to the least day at or after it, none is counted
  below_least : (from d : ℕ) → Least set from d → count_below set d ≡ count_below set from
  below_least from d l =
      let e : from + (d - from) ≡ d = omega (arith, l.late) in
      rw e at (below_stays from (d - from) (λ i h o. omega (arith, l.least (from + i) o (omega arith))))

  -- i days of the set are before `at`, the last of them directly before it
  pub record Walked (i at : ℕ) (last : Option ℕ) : Type 0 where
    pub counted : count_below set at ≡ i
    pub newest : MatchOption last (at ≡ 0) (λ d. DayOf set d × (at ≡ d + 1))

  pub start : Walked 0 0 None
  unfolding count_below
  start = record { counted = refl; newest = refl }

  pub step : {i at d : ℕ} {last : Option ℕ} → Walked i at last → Least set at d → Walked (i + 1) (d + 1) (Some d)
  step {i} {at} {d} {last} w l =
      let same = below_least at d l in
      let more = below_on d l.day in
      record { counted = omega (arith, w.counted); newest = (l.day, refl) }

  -- the walk ends where no day further on is one of the first n
  pub walked_last : {n i at : ℕ} (last : Option ℕ) → Walked i at last → i ≤ n →
      ((e : ℕ) → DayOf set e → at ≤ e → n ≤ count_below set e) → LastOf set n last
  walked_last {n} {i} {at} None w few over = λ e o h. absurd (omega (arith, over e o (omega (arith, w.newest))))
  walked_last {n} {i} {at} (Some d) w few over =
      let o = w.newest.0 in
      let is = w.newest.1 in
      let more = below_on d o in
      let c : count_below set at ≡ count_below set (d + 1) = ap (count_below set) is in
      record {
        day = o;
        among = omega (arith, w.counted);
        ends = λ e p h. ⊎_elim (λ (lt : e < at). omega arith) (λ (ge : at ≤ e). absurd (omega (arith, over e p ge))) (cases_lt e at);
      }

  -- the first n days are the days until d, if each of either is one of the other
  until_first : (n d : ℕ) → ((e : ℕ) → DayOf set e → count_below set e < n → e ≤ d) → ((e : ℕ) → DayOf set e → e ≤ d → count_below set e < n) → Same (until set d) (first_n set n)
  until_first n d ends among e r =
      ⊎_elim
      (λ (on : set e ≡ true).
      let o : DayOf set e = record { ranged = r; on = on } in
      let t = same_tests e d (count_below set e) n (among e o) (ends e o) in
      cc)
      (λ (off : set e ≡ false). rw off refl) (cases_Bool (set e))

  -- the first n days are the days until the last of them
  pub first_until : (n d : ℕ) → Last set n d → Same (until set d) (first_n set n)
  first_until n d l = until_first n d l.ends (λ e o h. omega (arith, below_mono e d h, l.among))

  -- and the days until 0, which is before the range, where there are none
  pub none_until : (n : ℕ) → LastOf set n None → Same (until set 0) (first_n set n)
  none_until n none = until_first n 0 (λ e o h. absurd (none e o h)) (λ e o h. absurd (omega (arith, past_zero e o.ranged)))
