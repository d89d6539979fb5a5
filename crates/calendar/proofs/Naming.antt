-- Dates by the codes of their months, in any calendar of a lawful shelf.
use Rattle.std.proofs.Common.{◌≡◌, ℕ, ◌+◌, ◌-◌, ◌≤◌, eqb, List, [], ◌∷◌, Some, None, Option, refl, ap, subst, arith, length-take}
use Rattle.std.proofs.lemmas.Bool.{cond_both}
use Rattle.days.specs.Months.{Falls, Counted}
use Rattle.calendar.specs.declared.sheet.MonthCode.{MonthCode}
use Rattle.calendar.specs.declared.sheet.Sheet.{Sheet}
use Rattle.calendar.specs.declared.dates.NamedDate.{NamedDate}
use Rattle.calendar.specs.Sheets.{Almanac, Stands, Dated, lengths_of, code_at}
use Rattle.calendar.specs.Laws.{Lawful}
use Rattle.calendar.specs.Dates.{BearsCode, CodeFound, Named, DateNamed, DayNamed}
use Rattle.calendar.specs.Shelves.{almanac_at, nothing, AllLawful}
use Rattle.calendar.proofs.Years.{months_most, stands_within, in_year}
use Rattle.calendar.proofs.Codes.{code_once}

-- what code may count on at any place of a shelf, past its end too
pub record Sound (a : Almanac) : Type 0 where
  pub months : (y : ℕ) → (a.sheet y).months ≤ 13
  pub ends : (n y p d : ℕ) → Stands a n y p d → n ≤ 804000
  pub code_once : (y : ℕ) (c : MonthCode) (p q : ℕ) → BearsCode (a.sheet y) c p → BearsCode (a.sheet y) c q → p ≡ q

pub sound_lawful : (a : Almanac) → Lawful a → Sound a
sound_lawful a l =
    record {
      months = months_most a l;
      ends = λ n y p d s. (l.in_span n y (stands_within a n y p d s)).to;
      code_once = λ y c p q b d. let f = b.from in let t = b.to in code_once a l y (omega arith) c p q b d;
    }

sound_nothing : Sound nothing
sound_nothing =
    record {
      months = λ y. omega arith;
      ends = λ n y p d s. let w = (stands_within nothing n y p d s).answered in absurd (let z : ⊥ = omega arith in z);
      code_once = λ y c p q b d. let f = b.from in let t = b.to in omega arith;
    }

pub sound : (l : List Almanac) → AllLawful l → (i : ℕ) → Sound (almanac_at l i)
sound [] all i = sound_nothing
sound (a ∷ more) all i =
    cond_both (eqb i 0) a (almanac_at more (i - 1)) Sound (λ _. sound_lawful a all.0) (λ _. sound more all.1 (i - 1))

-- a month with days is one of the year's
pub month_of : (a : Almanac) (n y p d : ℕ) → Stands a n y p d → (1 ≤ p) × (p ≤ (a.sheet y).months)
month_of a n y p d s =
    let m = length-take (a.sheet y).months (a.sheet y).lengths in
    let f = s.has.place_from in
    let t = s.has.place_to in
    (f, omega arith)

module _ (a : Almanac) where
  abbrev dated : ℕ → MonthCode → ℕ → NamedDate
  dated y c d = record { year = y; code = c; day = d }

  -- a date by its month's place is one by its month's code
  pub date_named_some : (n y p d : ℕ) → Dated a n (Some (y, p, d)) → DateNamed a n (Some (dated y (code_at (a.sheet y) p) d))
  date_named_some n y p d q =
      let s = q.stands y p d refl in
      let m = month_of a n y p d s in
      let here : Named a n (dated y (code_at (a.sheet y) p) d) = record { place = p; bears = record { from = m.0; to = m.1; same = refl }; stands = s } in
      record {
        right = λ t e. let i : dated y (code_at (a.sheet y) p) d ≡ t = cc in subst (Named a n) i here;
        only = λ t o.
            let e = q.only t.year o.place t.day o.stands in
            let i : ◌≡◌ {A = ℕ × ℕ × ℕ} (t.year, o.place, t.day) (y, p, d) = cc in
            subst (λ (u : ℕ × ℕ × ℕ). Some (dated u.0 (code_at (a.sheet u.0) u.1) u.2) ≡ Some t) i
            (ap (λ (c : MonthCode). Some (dated t.year c t.day)) o.bears.same);
      }

  -- where a code stands on the sheet of the date's year
  pub on_sheet : Sound a → (t : NamedDate) (s : Sheet) (o : Option ℕ) → s ≡ a.sheet t.year → (s.months ≤ 13 → CodeFound s t.code o) → CodeFound (a.sheet t.year) t.code o
  on_sheet known t s o e f = subst (λ (x : Sheet). CodeFound x t.code o) e (f (let m = known.months t.year in rw e m))

  -- all days of one date are as many days into the year
  into_year : Sound a → (t : NamedDate) (n p : ℕ) → CodeFound (a.sheet t.year) t.code (Some p) → Named a n t → Falls (lengths_of (a.sheet t.year)) (n - (a.sheet t.year).first) p t.day
  into_year s t n p f m =
      let e = s.code_once t.year t.code m.place p m.bears f.0 in
      in_year a n t.year p t.day (subst (λ (q : ℕ). Stands a n t.year q t.day) e m.stands)

  pub day_named_some : Sound a → (t : NamedDate) (p k : ℕ) → CodeFound (a.sheet t.year) t.code (Some p) → Counted (lengths_of (a.sheet t.year)) p t.day (Some k) → DayNamed a t (Some ((a.sheet t.year).first + k))
  day_named_some s t p k f c =
      let g = c.right k refl in
      let first = (a.sheet t.year).first in
      let after = g.after in
      let here : Named a (first + k) t = record { place = p; bears = f.0; stands = record { has = g.has; number = omega arith } } in
      record {
        right = λ n e. let i : first + k ≡ n = cc in subst (λ (m : ℕ). Named a m t) i here;
        only = λ n m.
            let e = c.only (n - first) (into_year s t n p f m) in
            let i : k ≡ n - first = cc in
            let h = m.stands.number in
            let j : first + k ≡ n = omega arith in
            ap Some j;
      }

  pub day_named_no_code : (t : NamedDate) → CodeFound (a.sheet t.year) t.code None → DayNamed a t None
  day_named_no_code t f = record { right = λ n e. cc; only = λ n m. absurd (f m.place m.bears) }

  pub day_named_no_day : Sound a → (t : NamedDate) (p : ℕ) → CodeFound (a.sheet t.year) t.code (Some p) → Counted (lengths_of (a.sheet t.year)) p t.day None → DayNamed a t None
  day_named_no_day s t p f c =
      record { right = λ n e. cc; only = λ n m. let o = c.only (n - (a.sheet t.year).first) (into_year s t n p f m) in cc }
