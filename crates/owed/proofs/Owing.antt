-- The lines that are owed: their list, its first line, and what becomes of it with a later mark or one more series.
use Rattle.std.proofs.Common.{◌≡◌, ℕ, zero, suc, ◌+◌, ◌-◌, ◌<◌, ◌≤◌, Bool, true, false, cond, ◌⊎◌, List, [], ◌∷◌, ◌++◌, length, nat_le, sym, refl, ap, ◌∙◌, subst, inl, inr, ⊎_elim, arith, le-leb}
use Rattle.std.specs.List.{All, Contains, filter}
use Rattle.std.proofs.lemmas.Bool.{cases_Bool, cases_lt, cond-true, cond-false, false_from_ne_true, lt-leb}
use Rattle.std.proofs.lemmas.List.{get_or_append_left, get_or_push, length_push}
use Rattle.std.proofs.lemmas.List.Elements.{All-weaker, All-contains, All-head, All-tail, All-filter, filter_passes, filter-append}
use Rattle.std.proofs.lemmas.List.Kept.{AllPairs-filter}
use Rattle.owed.specs.declared.line.Line.{Line}
use Rattle.owed.specs.Lines.{line, precedes, Before, NotAfter}
use Rattle.owed.specs.Owed.{GivenBy, on_day, on_days, all_lines, owed, Rising, Lists}
use Rattle.owed.proofs.Lists.{contains_cases, contains_nothing, all_both, pairs_head, pairs_tail, filter_all, filter_none, filter_contains, filter_stricter, filter_swap}
use Rattle.owed.proofs.Order.{before_from, not_after_from, before_test, not_after_test, not_after_itself, before_not_after, never_both, not_after_before}
use Rattle.owed.proofs.Window.{On, on_day_all, all_lines_rising, all_lines_only, all_lines_every}

-- x is the first line of a rising list that is after m
first_kept : (xs : List Line) (m x : Line) → Rising xs → Contains xs x → Before m x → All (λ l. Before m l → NotAfter x l) xs
    → filter (precedes m) xs ≡ x ∷ filter (precedes x) xs
first_kept [] m x r h b a = absurd (contains_nothing x h)
first_kept (y ∷ ys) m x r h b a =
    let below : All (Before y) ys = pairs_head Before y ys r in
    let least : Before m y → NotAfter x y = All-head (λ l. Before m l → NotAfter x l) y ys a in
    -- the lines after y pass the test of each mark that is not after y
    let pass : (z : Line) → NotAfter z y → filter (precedes z) ys ≡ ys = λ z k. filter_all (precedes z) ys (All-weaker (Before y) (λ l. precedes z l ≡ true) (λ l u. before_test z l (not_after_before z y l k u)) ys below) in
    ⊎_elim
    (λ t.
    let after : Before m y = before_from m y t in
    let e : y ≡ x = ⊎_elim (λ e. e) (λ j. absurd (never_both y x (All-contains (Before y) ys x below j) (least after))) (contains_cases y x ys h) in
    let stops : filter (precedes y) (y ∷ ys) ≡ ys = cond-false (precedes y y) _ _ (not_after_test y y (not_after_itself y)) ∙ pass y (not_after_itself y) in
    cond-true (precedes m y) _ _ t ∙ ap (λ l. y ∷ l) (pass m (before_not_after m y after) ∙ sym stops) ∙ ap (λ z. z ∷ filter (precedes z) (y ∷ ys)) e)
    (λ t.
    let past : NotAfter y m = not_after_from y m t in
    let j : Contains ys x = ⊎_elim (λ e. absurd (never_both m x b (subst (λ z. NotAfter z m) e past))) (λ j. j) (contains_cases y x ys h) in
    let skips : filter (precedes x) (y ∷ ys) ≡ filter (precedes x) ys = cond-false (precedes x y) _ _ (not_after_test y x (before_not_after y x (not_after_before y m x past b))) in
    cond-false (precedes m y) _ _ t ∙ first_kept ys m x (pairs_tail Before y ys r) j b (All-tail (λ l. Before m l → NotAfter x l) y ys a) ∙ ap (λ l. x ∷ l) (sym skips))
    (cases_Bool (precedes m y))

module _ (first last : ℕ) (sets : List (ℕ → Bool)) (mark : Line) where
  -- the list of owed lines rises, and has just the lines of the window that are after the mark
  pub owed_lists : Lists first last sets mark (owed first last sets mark)
  unfolding owed
  owed_lists =
      let xs = all_lines first last sets in
      record {
        rising = AllPairs-filter Before (precedes mark) xs (all_lines_rising first last sets);
        only = all_both (GivenBy first last sets) (Before mark) (filter (precedes mark) xs)
            (All-filter (precedes mark) (GivenBy first last sets) xs (all_lines_only first last sets))
            (All-weaker (λ l. precedes mark l ≡ true) (Before mark) (before_from mark) (filter (precedes mark) xs) (filter_passes (precedes mark) xs));
        every = λ l g b. filter_contains (precedes mark) l xs (all_lines_every first last sets l g) (before_test mark l b);
      }

  -- a line that is owed, where no owed line is before it: it is the first, and the rest is what is owed after it
  pub first_owed : (l : Line) → GivenBy first last sets l → Before mark l → ((x : Line) → GivenBy first last sets x → Before mark x → NotAfter l x)
      → owed first last sets mark ≡ l ∷ owed first last sets l
  unfolding owed
  first_owed l g b least =
      first_kept (all_lines first last sets) mark l (all_lines_rising first last sets) (all_lines_every first last sets l g) b
      (All-weaker (GivenBy first last sets) (λ x. Before mark x → NotAfter l x) least (all_lines first last sets) (all_lines_only first last sets))

  -- no line is owed
  pub none_owed : ((l : Line) → GivenBy first last sets l → Before mark l → ⊥) → owed first last sets mark ≡ []
  unfolding owed
  none_owed never =
      filter_none (precedes mark) (all_lines first last sets)
      (All-weaker (GivenBy first last sets) (λ l. precedes mark l ≡ false) (λ l g. false_from_ne_true (precedes mark l) (λ e. never l g (before_from mark l e))) (all_lines first last sets) (all_lines_only first last sets))

  -- the first of the owed lines is a line after the mark, and none of them is before it
  pub first_is_least : (l : Line) (rest : List Line) → owed first last sets mark ≡ l ∷ rest
      → GivenBy first last sets l × Before mark l × ((x : Line) → GivenBy first last sets x → Before mark x → NotAfter l x)
  first_is_least l rest e =
      let w : Lists first last sets mark (l ∷ rest) = subst (Lists first last sets mark) e owed_lists in
      let head = All-head (λ x. GivenBy first last sets x × Before mark x) l rest w.only in (
        head.0,
        head.1,
        λ x g b.
            ⊎_elim
            (λ s. subst (NotAfter l) s (not_after_itself l))
            (λ i. before_not_after l x (All-contains (Before l) rest x (pairs_head Before l rest w.rising) i))
            (contains_cases l x rest (w.every x g b)),
      )

  -- no line is owed where the list is empty
  pub empty_is_none : owed first last sets mark ≡ [] → (l : Line) → GivenBy first last sets l → Before mark l → ⊥
  empty_is_none e l g b =
      let w : Lists first last sets mark [] = subst (Lists first last sets mark) e owed_lists in
      contains_nothing l (w.every l g b)

-- after a later mark, or the same: what is after it of what was owed
pub owed_later : (first last : ℕ) (sets : List (ℕ → Bool)) (m1 m2 : Line) → NotAfter m1 m2 → owed first last sets m2 ≡ filter (precedes m2) (owed first last sets m1)
unfolding owed
owed_later first last sets m1 m2 h =
    sym (filter_stricter (precedes m1) (precedes m2)
    (λ x t. before_test m1 x (not_after_before m1 m2 x h (before_from m2 x t)))
    (all_lines first last sets))

-- ── one more series at the end ──

-- of the lines of a day, those of the series that were there; n is the number of the first set, b that of the last
kept_day : (d n b : ℕ) (sets more : List (ℕ → Bool)) → b + 1 ≡ n + length sets → filter (λ l. nat_le l.series b) (on_day d n (sets ++ more)) ≡ on_day d n sets
kept_day d n b [] more e = filter_none _ _ (All-weaker (On d n more) (λ l. nat_le l.series b ≡ false) (λ l o. lt-leb l.series b (omega (arith, e, o.1))) _ (on_day_all d n more))
kept_day d n b (s ∷ sets) more e = go (kept_day d (n + 1) b sets more (omega arith)) (s d)
  where
    go : filter (λ l. nat_le l.series b) (on_day d (n + 1) (sets ++ more)) ≡ on_day d (n + 1) sets → (t : Bool)
        → filter (λ l. nat_le l.series b) (cond t (line d n ∷ on_day d (n + 1) (sets ++ more)) (on_day d (n + 1) (sets ++ more))) ≡ cond t (line d n ∷ on_day d (n + 1) sets) (on_day d (n + 1) sets)
    go i true = cond-true (nat_le n b) _ _ (le-leb n b (omega arith)) ∙ ap (λ l. line d n ∷ l) i
    go i false = i

kept_days : (d k : ℕ) (sets more : List (ℕ → Bool)) → filter (λ l. nat_le l.series (length sets)) (on_days d k (sets ++ more)) ≡ on_days d k sets
kept_days d zero sets more = refl
kept_days d (suc k) sets more = filter-append (λ l. nat_le l.series (length sets)) (on_day d 1 (sets ++ more)) (on_days (d + 1) k (sets ++ more))
    ∙ (λ i. kept_day d 1 (length sets) sets more (omega arith) i ++ kept_days (d + 1) k sets more i)

module _ (first last : ℕ) (sets more : List (ℕ → Bool)) where
  -- without the lines of the series that are new, the lines of the window are what they were
  pub all_lines_kept : filter (λ l. nat_le l.series (length sets)) (all_lines first last (sets ++ more)) ≡ all_lines first last sets
  unfolding all_lines
  all_lines_kept = kept_days first (last + 1 - first) sets more

  -- and so are the owed ones
  pub owed_kept : (mark : Line) → filter (λ l. nat_le l.series (length sets)) (owed first last (sets ++ more) mark) ≡ owed first last sets mark
  unfolding owed
  owed_kept mark = filter_swap (λ l. nat_le l.series (length sets)) (precedes mark) (all_lines first last (sets ++ more)) ∙ ap (filter (precedes mark)) all_lines_kept

module _ (first last : ℕ) (sets : List (ℕ → Bool)) (set : ℕ → Bool) where
  -- a line of the window is one with a further series too
  pub given_still : (l : Line) → GivenBy first last sets l → GivenBy first last (sets ++ set ∷ []) l
  given_still l g =
      record {
        from_one = g.from_one;
        loaded = omega (arith, g.loaded, length_push sets set);
        opens = g.opens;
        closes = g.closes;
        gives = ap (λ f. f l.day) (get_or_append_left sets (set ∷ []) (λ day. false) (l.series - 1) (omega (arith, g.from_one, g.loaded))) ∙ g.gives;
      }

  -- a day of the window that the further series gives is a line of its number
  pub given_new : (d : ℕ) → first ≤ d → d ≤ last → set d ≡ true → GivenBy first last (sets ++ set ∷ []) (line d (length sets + 1))
  given_new d opens closes e =
      record {
        from_one = omega arith;
        loaded = omega (arith, length_push sets set);
        opens = opens;
        closes = closes;
        gives = ap (λ f. f d) (get_or_push sets set (λ day. false) (length sets + 1 - 1) (omega arith)) ∙ e;
      }

  -- a line with the further series is one of those that were there, or one of its number, on a day that it gives
  pub given_cases : (l : Line) → GivenBy first last (sets ++ set ∷ []) l → GivenBy first last sets l ⊎ ((l.series ≡ length sets + 1) × (set l.day ≡ true))
  given_cases l g = ⊎_elim
      (λ (lt : l.series < length sets + 1). inl (record {
        from_one = g.from_one;
        loaded = omega arith;
        opens = g.opens;
        closes = g.closes;
        gives = ap (λ f. f l.day) (sym (get_or_append_left sets (set ∷ []) (λ day. false) (l.series - 1) (omega (arith, g.from_one)))) ∙ g.gives;
      }))
      (λ (le : length sets + 1 ≤ l.series).
      let e : l.series ≡ length sets + 1 = omega (arith, g.loaded, length_push sets set) in
      inr (e, ap (λ f. f l.day) (sym (get_or_push sets set (λ day. false) (l.series - 1) (omega (arith, e)))) ∙ g.gives))
      (cases_lt l.series (length sets + 1))

  -- the same of the list of all lines
  pub all_lines_still : (l : Line) → Contains (all_lines first last sets) l → Contains (all_lines first last (sets ++ set ∷ [])) l
  all_lines_still l h = all_lines_every first last (sets ++ set ∷ []) l (given_still l (All-contains (GivenBy first last sets) _ l (all_lines_only first last sets) h))

  pub all_lines_cases : (l : Line) → Contains (all_lines first last (sets ++ set ∷ [])) l → Contains (all_lines first last sets) l ⊎ ((l.series ≡ length sets + 1) × (set l.day ≡ true))
  all_lines_cases l h = ⊎_elim (λ g. inl (all_lines_every first last sets l g)) inr (given_cases l (All-contains (GivenBy first last (sets ++ set ∷ [])) _ l (all_lines_only first last (sets ++ set ∷ [])) h))
