-- The lines of a window.
use Rattle.std.proofs.Common.{◌≡◌, ℕ, zero, suc, ◌+◌, ◌-◌, ◌<◌, ◌≤◌, true, false, Bool, List, [], ◌∷◌, length, get_or, sym, refl, ap, ◌∙◌, subst, ⊎_elim, arith}
use Rattle.std.specs.List.{All, Contains}
use Rattle.std.proofs.lemmas.Bool.{cases_eq, cond-true, cond_both}
use Rattle.std.proofs.lemmas.List.Elements.{All-nil, All-cons, All-append, All-weaker, Contains-append_left, Contains-append_right}
use Rattle.std.proofs.lemmas.List.Kept.{AllPairs-cons}
use Rattle.owed.specs.declared.line.Line.{Line}
use Rattle.owed.specs.Lines.{line, Before}
use Rattle.owed.specs.Owed.{on_day, on_days, all_lines, GivenBy, Rising}
use Rattle.owed.proofs.Lists.{contains_first, contains_later, pairs_none, pairs_append}

-- a line of a day, of a series from the number n on
abbrev pub On : ℕ → ℕ → List (ℕ → Bool) → Line → Type 0
On d n sets l = (l.day ≡ d) × (n ≤ l.series) × (l.series < n + length sets) × (get_or sets (l.series - n) (λ day. false) d ≡ true)

on_first : (d n : ℕ) (s : ℕ → Bool) (sets : List (ℕ → Bool)) → s d ≡ true → On d n (s ∷ sets) (line d n)
on_first d n s sets e =
    let z : n - n ≡ zero = omega arith in
    (refl, omega arith, omega arith, ap (λ k. get_or (s ∷ sets) k (λ day. false) d) z ∙ e)

on_later : (d n : ℕ) (s : ℕ → Bool) (sets : List (ℕ → Bool)) (l : Line) → On d (n + 1) sets l → On d n (s ∷ sets) l
on_later d n s sets l o =
    let e : l.series - n ≡ suc (l.series - (n + 1)) = omega (arith, o.1) in
    (o.0, omega (arith, o.1), omega (arith, o.2), ap (λ k. get_or (s ∷ sets) k (λ day. false) d) e ∙ o.3)

pub on_day_all : (d n : ℕ) (sets : List (ℕ → Bool)) → All (On d n sets) (on_day d n sets)
on_day_all d n [] = All-nil (On d n [])
on_day_all d n (s ∷ sets) =
    let rest : All (On d n (s ∷ sets)) (on_day d (n + 1) sets) = All-weaker (On d (n + 1) sets) (On d n (s ∷ sets)) (on_later d n s sets) _ (on_day_all d (n + 1) sets) in
    cond_both (s d) (line d n ∷ on_day d (n + 1) sets) (on_day d (n + 1) sets) (All (On d n (s ∷ sets))) (λ e. All-cons (On d n (s ∷ sets)) _ _ (on_first d n s sets e) rest) (λ _. rest)

pub on_day_rising : (d n : ℕ) (sets : List (ℕ → Bool)) → Rising (on_day d n sets)
on_day_rising d n [] = pairs_none Before
on_day_rising d n (s ∷ sets) =
    let rest = on_day_rising d (n + 1) sets in
    cond_both (s d) (line d n ∷ on_day d (n + 1) sets) (on_day d (n + 1) sets) Rising
    (λ _. AllPairs-cons Before (line d n) _ (All-weaker (On d (n + 1) sets) (Before (line d n)) (λ y o. (omega (arith, o.0), λ e. omega (arith, o.1))) _ (on_day_all d (n + 1) sets)) rest) (λ _. rest)

pub in_on_day : (d n i k : ℕ) (sets : List (ℕ → Bool)) → i < length sets → k ≡ n + i → get_or sets i (λ day. false) d ≡ true → Contains (on_day d n sets) (line d k)
in_on_day d n i k [] h e g = absurd (omega arith)
in_on_day d n zero k (s ∷ sets) h e g =
    let same : n ≡ k = omega arith in
    subst (λ l. Contains l (line d k)) (sym (cond-true (s d) _ _ g)) (subst (λ m. Contains (line d m ∷ on_day d (n + 1) sets) (line d k)) (sym same) (contains_first _ _))
in_on_day d n (suc i) k (s ∷ sets) h e g =
    let there = in_on_day d (n + 1) i k sets (omega arith) (omega arith) g in
    cond_both (s d) (line d n ∷ on_day d (n + 1) sets) (on_day d (n + 1) sets) (λ l. Contains l (line d k)) (λ _. contains_later _ _ _ there) (λ _. there)

-- a line of k days from d on
abbrev pub OnDays : ℕ → ℕ → List (ℕ → Bool) → Line → Type 0
OnDays d k sets l = (d ≤ l.day) × (l.day < d + k) × On l.day 1 sets l

pub on_days_all : (d k : ℕ) (sets : List (ℕ → Bool)) → All (OnDays d k sets) (on_days d k sets)
on_days_all d zero sets = All-nil (OnDays d zero sets)
on_days_all d (suc k) sets = All-append (OnDays d (suc k) sets) (on_day d 1 sets) (on_days (d + 1) k sets)
    (All-weaker (On d 1 sets) (OnDays d (suc k) sets) (λ l o. (omega (arith, o.0), omega (arith, o.0), (refl, o.1, o.2, ap (λ m. get_or sets (l.series - 1) (λ day. false) m) o.0 ∙ o.3))) _ (on_day_all d 1 sets))
    (All-weaker (OnDays (d + 1) k sets) (OnDays d (suc k) sets) (λ l o. (omega (arith, o.0), omega (arith, o.1), o.2)) _ (on_days_all (d + 1) k sets))

pub on_days_rising : (d k : ℕ) (sets : List (ℕ → Bool)) → Rising (on_days d k sets)
on_days_rising d zero sets = pairs_none Before
on_days_rising d (suc k) sets = pairs_append Before (on_day d 1 sets) (on_days (d + 1) k sets) (on_day_rising d 1 sets) (on_days_rising (d + 1) k sets)
    (All-weaker (On d 1 sets) (λ x. All (Before x) (on_days (d + 1) k sets)) (λ x o. All-weaker (OnDays (d + 1) k sets) (Before x) (λ y p. (omega (arith, o.0, p.0), λ e. absurd (omega (arith, o.0, p.0)))) _ (on_days_all (d + 1) k sets)) _ (on_day_all d 1 sets))

pub in_on_days : (d k : ℕ) (sets : List (ℕ → Bool)) (x i n : ℕ) → d ≤ x → x < d + k → i < length sets → n ≡ 1 + i → get_or sets i (λ day. false) x ≡ true → Contains (on_days d k sets) (line x n)
in_on_days d zero sets x i n a b h e g = absurd (omega arith)
in_on_days d (suc k) sets x i n a b h e g = ⊎_elim
    (λ f. Contains-append_left (on_day d 1 sets) _ _ (subst (λ m. Contains (on_day m 1 sets) (line x n)) f (in_on_day x 1 i n sets h e g)))
    (λ f. Contains-append_right (on_day d 1 sets) _ _ (in_on_days (d + 1) k sets x i n (omega arith) (omega arith) h e g))
    (cases_eq x d)

module _ (first last : ℕ) (sets : List (ℕ → Bool)) where
  given : (l : Line) → OnDays first (last + 1 - first) sets l → GivenBy first last sets l
  given l o = record { from_one = o.2.1; loaded = omega (arith, o.2.2); opens = o.0; closes = omega (arith, o.0, o.1); gives = o.2.3 }

  pub all_lines_rising : Rising (all_lines first last sets)
  unfolding all_lines
  all_lines_rising = on_days_rising first (last + 1 - first) sets

  -- each of them is a line of the window
  pub all_lines_only : All (GivenBy first last sets) (all_lines first last sets)
  unfolding all_lines
  all_lines_only = All-weaker (OnDays first (last + 1 - first) sets) (GivenBy first last sets) given _ (on_days_all first (last + 1 - first) sets)

  -- and each line of the window is one of them
  pub all_lines_every : (l : Line) → GivenBy first last sets l → Contains (all_lines first last sets) l
  unfolding all_lines
  all_lines_every l g = in_on_days first (last + 1 - first) sets l.day (l.series - 1) l.series g.opens (omega (arith, g.opens, g.closes)) (omega (arith, g.from_one, g.loaded)) (omega (arith, g.from_one)) g.gives
