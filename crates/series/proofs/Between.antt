-- The days of a set between two days: each is the least of those that are left.
use Rattle.std.proofs.Common.{◌≡◌, ℕ, zero, suc, ◌+◌, ◌-◌, ◌<◌, ◌≤◌, Bool, true, false, ◌&&◌, [], ◌∷◌, None, refl, ◌∙◌, arith, ⊎_elim}
use Rattle.std.proofs.lemmas.Bool.{cases_Bool, and_from, and_parts}
use Rattle.std.specs.List.{filter, range_with_len}
use Rattle.days.specs.Numbers.{in_range}
use Rattle.sources.specs.Sets.{DayOf, Least, Found}
use Rattle.series.specs.Record.{days_between}

module _ (set : ℕ → Bool) where
  abbrev among : ℕ → Bool
  among d = in_range d && set d

  kept_head : (n a : ℕ) → DayOf set a → filter among (range_with_len a (suc n)) ≡ a ∷ filter among (range_with_len (a + 1) n)
  kept_head n a o = let on : among a ≡ true = and_from (in_range a) (set a) o.ranged o.on in rw on refl

  left_head : (n a : ℕ) → (DayOf set a → ⊥) → filter among (range_with_len a (suc n)) ≡ filter among (range_with_len (a + 1) n)
  left_head n a free =
      ⊎_elim (λ t. let p = and_parts (in_range a) (set a) t in absurd (free (record { ranged = p.0; on = p.1 })))
      (λ (off : among a ≡ false). rw off refl) (cases_Bool (among a))

  -- a stretch of n days from a that has no day of the set
  none_in : (n a : ℕ) → ((e : ℕ) → DayOf set e → a ≤ e → e < a + n → ⊥) → filter among (range_with_len a n) ≡ []
  none_in zero a none = refl
  none_in (suc n) a none =
      left_head n a (λ o. none a o (omega arith) (omega arith)) ∙ none_in n (a + 1) (λ e o h l. none e o (omega arith) (omega arith))

  -- a stretch whose least day of the set is k days after a
  least_in : (k m a : ℕ) → DayOf set (a + k) → ((e : ℕ) → DayOf set e → a ≤ e → a + k ≤ e) → filter among (range_with_len a (k + suc m)) ≡ (a + k) ∷ filter among (range_with_len (a + k + 1) m)
  least_in zero m a o least = let e : a + 0 ≡ a = omega arith in let s : 0 + suc m ≡ suc m = omega arith in rw (e, s) (kept_head m a (rw e at o))
  least_in (suc k) m a o least =
      let e : a + suc k ≡ a + 1 + k = omega arith in
      let s : suc k + suc m ≡ suc (k + suc m) = omega arith in
      rw s (left_head (k + suc m) a (λ here. let h = least a here (omega arith) in omega arith)
      ∙ rw e (least_in k m (a + 1) (rw e at o) (λ d on h. let l = least d on (omega arith) in omega arith)))

  -- no day is left at or after `from`
  pub ended : (from last : ℕ) → Found set from None → days_between set from last ≡ []
  ended from last none = none_in (last + 1 - from) from (λ e o h _. none e o h)

  -- the least day that is left is past the last
  pub past : (from last d : ℕ) → Least set from d → last < d → days_between set from last ≡ []
  past from last d found h = none_in (last + 1 - from) from (λ e o late l. let m = found.least e o late in omega arith)

  -- the least day that is left comes first
  pub next : (from last d : ℕ) → Least set from d → d ≤ last → days_between set from last ≡ d ∷ days_between set (d + 1) last
  next from last d found h =
      let late = found.late in
      let k = d - from in
      let at : from + k ≡ d = omega arith in
      let size : last + 1 - from ≡ k + suc (last - d) = omega arith in
      let rest : last - d ≡ last + 1 - (d + 1) = omega arith in
      rw (size, ← rest) (rw at at (least_in k (last - d) from (rw at (found.day)) (λ e o l. rw at (found.least e o l))))
