-- The search for a day's date: how far a guess may go on or back, that it comes nearer, and when there is no date.
use Rattle.std.proofs.Common.{◌≡◌, ℕ, ◌+◌, ◌-◌, ◌^◌, ◌<◌, ◌≤◌, cond, eqb, ltb, Some, None, Option, ap, subst, ⊎_elim, arith}
use Rattle.std.proofs.lemmas.Bool.{cases_lt, lt-ltb, le-ltb, eq-eqb, ne_eqb, cond-true, cond-false}
use Rattle.calendar.specs.Sheets.{Almanac, Answered, Stands, Dated, days_of}
use Rattle.calendar.specs.Laws.{Lawful}
use Rattle.calendar.specs.Search.{Seen}
use Rattle.calendar.specs.declared.search.Sight.TheVariants.{Earlier, Later}
use Rattle.std.specs.Option.{SomeIff}
use Rattle.calendar.proofs.Years.{stands_within, between, apart_by, after_end, one_date}

-- the year y may be on the way to the date of the day n, if n has one
abbrev pub Open : Almanac → ℕ → ℕ → Type 0
Open a n y = (z p d : ℕ) → Stands a n z p d → Answered a y

-- how far the guess y is from the day n: a guess after the day counts more than any before it
abbrev pub gap : Almanac → ℕ → ℕ → ℕ
gap a n y = cond (eqb (a.sheet y).months 0) 0 (cond (ltb n (a.sheet y).first) (2 ^ 32 + ((a.sheet y).first - n)) (n - (a.sheet y).first + 1))

-- what a step from the guess y owes: a guess that is nearer and on the way, or that the day has no date
abbrev pub Step : Almanac → ℕ → ℕ → Option ℕ → Type 0
Step a n y (Some x) = Open a n x × (gap a n x < gap a n y)
Step a n y None = Dated a n None

gap_none : (a : Almanac) (n y : ℕ) → (a.sheet y).months ≤ 0 → gap a n y ≡ 0
gap_none a n y h = cond-true _ _ _ (eq-eqb (a.sheet y).months 0 (omega arith))

gap_after : (a : Almanac) (n y : ℕ) → Answered a y → n < (a.sheet y).first → gap a n y ≡ 2 ^ 32 + ((a.sheet y).first - n)
gap_after a n y h k =
    rw (cond-false _ _ _ (ne_eqb (a.sheet y).months 0 (λ e. omega arith)), cond-true _ _ _ (lt-ltb n (a.sheet y).first k))

gap_before : (a : Almanac) (n y : ℕ) → Answered a y → (a.sheet y).first ≤ n → gap a n y ≡ n - (a.sheet y).first + 1
gap_before a n y h k =
    rw (cond-false _ _ _ (ne_eqb (a.sheet y).months 0 (λ e. omega arith)), cond-false _ _ _ (le-ltb n (a.sheet y).first k))

module _ (a : Almanac) (n : ℕ) where
  pub dated_none : ((z p d : ℕ) → Stands a n z p d → ⊥) → Dated a n None
  dated_none none =
      record {
        stands = λ y p d e. cc;
        only = λ y p d s. absurd (none y p d s);
      }

  pub dated_some : Lawful a → (y p d : ℕ) → Stands a n y p d → Dated a n (Some (y, p, d))
  dated_some l y p d s =
      record {
        stands = λ z q e i.
            let j : ◌≡◌ {A = ℕ × ℕ × ℕ} (y, p, d) (z, q, e) = cc in
            subst (λ (t : ℕ × ℕ × ℕ). Stands a n t.0 t.1 t.2) j s;
        only = λ z q e t. let u = one_date a l n y p d z q e s t in cc;
      }

module _ (a : Almanac) (l : Lawful a) (n y k : ℕ) (f : Answered a y) where
  module _ (s : Seen (a.sheet y) n (Earlier k)) where
    -- the day's year is no nearer than the days between hold years
    earlier_far : (z p d : ℕ) → Stands a n z p d → z + k ≤ y
    earlier_far z p d t =
        let w = stands_within a n z p d t in
        let wf = w.from in
        let b = s.0 in
        let e = s.1 in
        ⊎_elim (λ (h : z < y). let i = apart_by a l z y w.answered f (omega arith) in omega arith)
        (λ (h : y ≤ z). let i = apart_by a l y z f w.answered h in omega arith)
        (cases_lt z y)

    earlier_open : (x : ℕ) → x + k ≡ y → Open a n x
    earlier_open x e z p d t =
        let i = earlier_far z p d t in
        between a l z x y (stands_within a n z p d t).answered f (omega arith) (omega arith)

    earlier_nearer : n < 2 ^ 32 → (x : ℕ) → x + k ≡ y → gap a n x < gap a n y
    earlier_nearer b x e =
        let after = gap_after a n y f s.0 in
        let c = s.1 in
        ⊎_elim
        (λ (g : 0 < (a.sheet x).months).
        let i = apart_by a l x y g f (omega arith) in
        ⊎_elim (λ (h : n < (a.sheet x).first). let e' = gap_after a n x g h in omega arith)
        (λ (h : (a.sheet x).first ≤ n). let e' = gap_before a n x g h in omega arith)
        (cases_lt n (a.sheet x).first))
        (λ (g : (a.sheet x).months ≤ 0). let e' = gap_none a n x g in omega arith)
        (cases_lt 0 (a.sheet x).months)

  module _ (s : Seen (a.sheet y) n (Later k)) where
    later_far : (z p d : ℕ) → Stands a n z p d → y + k ≤ z
    later_far z p d t =
        let w = stands_within a n z p d t in
        let wt = w.to in
        let b = s.0 in
        let o = s.1 in
        let e = s.2 in
        ⊎_elim
        (λ (h : y < z).
        let i = apart_by a l y z f w.answered (omega arith) in
        let c = l.year_days z w.answered in
        omega arith)
        (λ (h : z ≤ y).
        ⊎_elim (λ (g : z < y). let i = after_end a l z y w.answered f g in omega arith)
        (λ (g : y ≤ z).
        let i : z ≡ y = omega arith in
        let c = subst (λ (x : ℕ). n < (a.sheet x).first + days_of (a.sheet x)) i wt in
        omega arith)
        (cases_lt z y))
        (cases_lt y z)

    later_open : (x : ℕ) → x ≡ y + k → Open a n x
    later_open x e z p d t =
        let i = later_far z p d t in
        between a l y x z f (stands_within a n z p d t).answered (omega arith) (omega arith)

    -- the guess does not pass the day
    later_begun : (x : ℕ) → Answered a x → x ≡ y + k → (a.sheet x).first ≤ n
    later_begun x g e =
        let b = s.0 in
        let o = s.1 in
        let m = s.2 in
        ⊎_elim
        (λ (h : k < 2).
        let i : x ≡ y + 1 = omega arith in
        let j = l.meets y f (subst (Answered a) i g) in
        let c : (a.sheet x).first ≡ (a.sheet (y + 1)).first = ap (λ (z : ℕ). (a.sheet z).first) i in
        omega arith)
        (λ (h : 2 ≤ k). let i = apart_by a l y x f g (omega arith) in omega arith)
        (cases_lt k 2)

    later_nearer : (x : ℕ) → x ≡ y + k → gap a n x < gap a n y
    later_nearer x e =
        let b = gap_before a n y f s.0 in
        let m = s.2 in
        ⊎_elim
        (λ (g : 0 < (a.sheet x).months).
        let i = apart_by a l y x f g (omega arith) in
        let j = later_begun x g e in
        let c = gap_before a n x g j in
        omega arith)
        (λ (g : (a.sheet x).months ≤ 0). let c = gap_none a n x g in omega arith)
        (cases_lt 0 (a.sheet x).months)

  -- the step from a sight to the next guess
  pub earlier_step : n < 2 ^ 32 → Seen (a.sheet y) n (Earlier k) → (r : Option ℕ) → SomeIff r (k ≤ y) (y - k) → Step a n y r
  earlier_step b s None c = dated_none a n (λ z p d t. let i = earlier_far s z p d t in c (omega arith))
  earlier_step b s (Some x) c =
      let h = c.0 in
      let i = c.1 in
      (earlier_open s x (omega arith), earlier_nearer s b x (omega arith))

  pub later_step : Seen (a.sheet y) n (Later k) → (r : Option ℕ) → SomeIff r (y + k < 2 ^ 32) (y + k) → Step a n y r
  later_step s None c =
      dated_none a n
      (λ z p d t.
      let i = later_far s z p d t in
      let h = l.numbered z (stands_within a n z p d t).answered in
      c (omega arith))
  later_step s (Some x) c = let i = c.1 in (later_open s x (omega arith), later_nearer s x (omega arith))
