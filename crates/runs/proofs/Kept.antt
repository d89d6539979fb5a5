-- What each step of a right run keeps: over any sets of days, any mark and any lines, and for no run in particular.
use Rattle.std.proofs.Common.{◌≡◌, ℕ, ◌-◌, ◌<◌, ◌≤◌, Bool, false, ◌⊎◌, List, [], ◌∷◌, ◌++◌, length, sym, refl, ap, ◌∙◌, subst, inl, inr, ⊎_elim, arith}
use Rattle.std.specs.List.{Contains}
use Rattle.std.proofs.lemmas.Bool.{cases_Bool, cases_lt}
use Rattle.std.proofs.lemmas.List.{get_or_append_left, length-append}
use Rattle.std.proofs.lemmas.List.Elements.{All-cons, All-nil, All-weaker, All-contains_itself, Contains-append_left, Contains-push, Contains-push_cases}
use Rattle.std.proofs.lemmas.List.Kept.{AllPairs-cons}
use Rattle.owed.specs.declared.line.Line.{Line}
use Rattle.owed.specs.Lines.{line, Before, NotAfter}
use Rattle.owed.specs.Owed.{GivenBy, Rising}
use Rattle.owed.proofs.Lists.{contains_nothing, pairs_none, pairs_append}
use Rattle.owed.proofs.Order.{before_from, not_after_from, not_after_itself, before_not_after, never_both, not_after_before, same_line}
use Rattle.runs.specs.Law.{JustOne}

-- ── just one of three ──

-- each of the three holds as before
one_still : {A B C X Y Z : Type 0} → (A → X) × (X → A) → (B → Y) × (Y → B) → (C → Z) × (Z → C) → JustOne A B C → JustOne X Y Z
one_still f g h (inl k) = inl (f.0 k.0, λ y. k.1 (g.1 y), λ z. k.2 (h.1 z))
one_still f g h (inr (inl k)) = inr (inl (g.0 k.0, λ x. k.1 (f.1 x), λ z. k.2 (h.1 z)))
one_still f g h (inr (inr k)) = inr (inr (h.0 k.0, λ x. k.1 (f.1 x), λ y. k.2 (g.1 y)))

as_before : {A : Type 0} → (A → A) × (A → A)
as_before = (λ a. a, λ a. a)

-- ── lines in turn ──

not_after_chain : (l m n : Line) → NotAfter l m → NotAfter m n → NotAfter l n
not_after_chain l m n h k = grind arith

either_side : (l m : Line) → Before m l ⊎ NotAfter l m
either_side l m = ⊎_elim (λ t. inl (before_from m l t)) (λ t. inr (not_after_from l m t)) (cases_Bool _)

neither_after : (l m : Line) → NotAfter l m → NotAfter m l → l ≡ m
neither_after l m h k = same_line l m (omega (arith, h.0, k.0)) (grind arith)

rising_one : (l : Line) → Rising (l ∷ [])
rising_one l = AllPairs-cons Before l [] (All-nil (Before l)) (pairs_none Before)

-- ── what is kept ──

-- of the sets of the series, the mark, the lines drawn, the days sought, the lines jumped and those late
pub record Kept (first last : ℕ) (sets : List (ℕ → Bool)) (mark : Line) (drawn : List Line) (Went : ℕ → Type 0) (Jumped Late : Line → Type 0) : Type 0 where
  pub after_first : NotAfter (line first 0) mark
  pub after_sought : (d : ℕ) → Went d → NotAfter (line d 0) mark
  pub is_one : (mark ≡ line first 0) ⊎ (Contains drawn mark ⊎ ((d : ℕ) × Went d × (mark ≡ line d 0)))
  pub passed : (l : Line) → GivenBy first last sets l → NotAfter l mark → JustOne (Contains drawn l) (Jumped l) (Late l)
  pub only : (l : Line) → Contains drawn l ⊎ (Jumped l ⊎ Late l) → GivenBy first last sets l × NotAfter l mark
  pub rise : Rising drawn

-- at first there is no series
pub kept_fresh : (first last : ℕ) → Kept first last [] (line first 0) [] (λ d. ⊥) (λ l. ⊥) (λ l. ⊥)
kept_fresh first last =
    record {
      after_first = not_after_itself (line first 0);
      after_sought = λ d h. absurd h;
      is_one = inl refl;
      passed = λ l g n. absurd (omega (arith, g.from_one, g.loaded));
      only = λ l h. absurd (⊎_elim (contains_nothing l) (⊎_elim (λ b. b) (λ b. b)) h);
      rise = pairs_none Before;
    }

-- ── more series at the end ──

module _ (first last : ℕ) (sets more : List (ℕ → Bool)) (l : Line) where
  -- a line stays one
  still_given : GivenBy first last sets l → GivenBy first last (sets ++ more) l
  still_given g =
      record {
        from_one = g.from_one;
        loaded = omega (arith, g.loaded, length-append sets more);
        opens = g.opens;
        closes = g.closes;
        gives = ap (λ f. f l.day) (get_or_append_left sets more (λ day. false) (l.series - 1) (omega (arith, g.from_one, g.loaded))) ∙ g.gives;
      }

  -- a line of one of the series that were there was one
  was_given : l.series ≤ length sets → GivenBy first last (sets ++ more) l → GivenBy first last sets l
  was_given h g =
      record {
        from_one = g.from_one;
        loaded = h;
        opens = g.opens;
        closes = g.closes;
        gives = ap (λ f. f l.day) (sym (get_or_append_left sets more (λ day. false) (l.series - 1) (omega (arith, g.from_one)))) ∙ g.gives;
      }

module _ {first last : ℕ} {sets : List (ℕ → Bool)} {mark : Line} {drawn : List Line} {Went : ℕ → Type 0} {Jumped Late : Line → Type 0}
    (k : Kept first last sets mark drawn Went Jumped Late) where
  -- ── a load ──

  -- a line of a new series is late exactly if the mark stands at it or past it
  pub kept_loaded : (more : List (ℕ → Bool)) (n : ℕ) → n ≡ length sets
      → Kept first last (sets ++ more) mark drawn Went Jumped (λ l. (GivenBy first last (sets ++ more) l × (n < l.series) × NotAfter l mark) ⊎ Late l)
  kept_loaded more n e =
      record {
        after_first = k.after_first;
        after_sought = k.after_sought;
        is_one = k.is_one;
        passed = λ l g a. ⊎_elim
            (λ (new : n < l.series).
            let old : Contains drawn l ⊎ (Jumped l ⊎ Late l) → ⊥ = λ h. omega (arith, (k.only l h).0.loaded) in
            inr (inr (inl (g, new, a), λ d. old (inl d), λ j. old (inr (inl j)))))
            (λ (there : l.series ≤ n).
            one_still as_before as_before (inr, ⊎_elim (λ h. absurd (omega (arith, h.1))) (λ h. h)) (k.passed l (was_given first last sets more l (omega arith) g) a))
            (cases_lt n l.series);
        only = λ l h.
            let old : Contains drawn l ⊎ (Jumped l ⊎ Late l) → GivenBy first last (sets ++ more) l × NotAfter l mark = λ o. let w = k.only l o in (still_given first last sets more l w.0, w.1) in
            ⊎_elim (λ d. old (inl d)) (⊎_elim (λ j. old (inr (inl j))) (⊎_elim (λ w. (w.0, w.2)) (λ w. old (inr (inr w))))) h;
        rise = k.rise;
      }

  -- ── a seek ──

  -- the lines that the mark passes on are jumped
  pub kept_sought : (day : ℕ) (next : Line) → NotAfter mark next → NotAfter (line day 0) next → (next ≡ mark) ⊎ (next ≡ line day 0)
      → Kept first last sets next drawn (λ d. (d ≡ day) ⊎ Went d) (λ l. (GivenBy first last sets l × Before mark l × NotAfter l next) ⊎ Jumped l) Late
  kept_sought day next later at which =
      record {
        after_first = not_after_chain _ mark next k.after_first later;
        after_sought = λ d. ⊎_elim (λ e. subst (λ x. NotAfter (line x 0) next) (sym e) at) (λ w. not_after_chain _ mark next (k.after_sought d w) later);
        is_one = ⊎_elim
            (λ e. ⊎_elim (λ f. inl (e ∙ f)) (⊎_elim (λ d. inr (inl (subst (Contains drawn) (sym e) d))) (λ w. inr (inr (w.0, inr w.1, e ∙ w.2)))) k.is_one)
            (λ e. inr (inr (day, inl refl, e)))
            which;
        passed = λ l g a. ⊎_elim
            (λ (after : Before mark l).
            let old : Contains drawn l ⊎ (Jumped l ⊎ Late l) → ⊥ = λ h. never_both mark l after (k.only l h).1 in
            inr (inl (inl (g, after, a), λ d. old (inl d), λ w. old (inr (inr w)))))
            (λ (there : NotAfter l mark).
            one_still as_before (inr, ⊎_elim (λ h. absurd (never_both mark l h.1 there)) (λ h. h)) as_before (k.passed l g there))
            (either_side l mark);
        only = λ l h.
            let old : Contains drawn l ⊎ (Jumped l ⊎ Late l) → GivenBy first last sets l × NotAfter l next = λ o. let w = k.only l o in (w.0, not_after_chain l mark next w.1 later) in
            ⊎_elim (λ d. old (inl d)) (⊎_elim (⊎_elim (λ j. (j.0, j.2)) (λ j. old (inr (inl j)))) (λ w. old (inr (inr w)))) h;
        rise = k.rise;
      }

  -- ── a draw ──

  -- the line drawn is the one that the mark passes
  pub kept_drawn : (next : Line) → GivenBy first last sets next → Before mark next → ((l : Line) → GivenBy first last sets l → Before mark l → NotAfter next l)
      → Kept first last sets next (drawn ++ next ∷ []) Went Jumped Late
  kept_drawn next given after least =
      let later : NotAfter mark next = before_not_after mark next after in
      record {
        after_first = not_after_chain _ mark next k.after_first later;
        after_sought = λ d w. not_after_chain _ mark next (k.after_sought d w) later;
        is_one = inr (inl (Contains-push drawn next));
        passed = λ l g a. ⊎_elim
            (λ (new : Before mark l).
            let old : Contains drawn l ⊎ (Jumped l ⊎ Late l) → ⊥ = λ h. never_both mark l new (k.only l h).1 in
            inl (subst (Contains (drawn ++ next ∷ [])) (neither_after next l (least l g new) a) (Contains-push drawn next), λ j. old (inr (inl j)), λ w. old (inr (inr w))))
            (λ (there : NotAfter l mark).
            one_still
            (Contains-append_left drawn (next ∷ []) l, λ d. ⊎_elim (λ h. h) (λ e. absurd (never_both mark next after (subst (λ x. NotAfter x mark) (sym e) there))) (Contains-push_cases drawn next l d))
            as_before as_before (k.passed l g there))
            (either_side l mark);
        only = λ l h.
            let old : Contains drawn l ⊎ (Jumped l ⊎ Late l) → GivenBy first last sets l × NotAfter l next = λ o. let w = k.only l o in (w.0, not_after_chain l mark next w.1 later) in
            ⊎_elim
            (λ d. ⊎_elim (λ o. old (inl o)) (λ e. subst (λ x. GivenBy first last sets x × NotAfter x next) e (given, not_after_itself next)) (Contains-push_cases drawn next l d))
            (λ o. old (inr o))
            h;
        rise = pairs_append Before drawn (next ∷ []) k.rise (rising_one next)
            (All-weaker (Contains drawn) _ (λ x d. All-cons (Before x) next [] (not_after_before x mark next (k.only x (inl d)).1 after) (All-nil (Before x))) drawn (All-contains_itself drawn));
      }
