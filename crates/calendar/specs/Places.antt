-- Places on a shelf: what stands at the first of them and what stands further on.
use Rattle.std.specs.Prelude.{◌≡◌, ℕ, zero, suc, ◌+◌, ◌-◌, ◌<◌, List, [], ◌∷◌, length, take, ◌==◌, ◌≢◌, refl}
use Rattle.std.proofs.Common.{sym, ◌∙◌, ap, subst, not-suc-le-zero, le_of_suc-le-suc, arith}
use Rattle.std.proofs.lemmas.Bool.{ne_eqb, eqb-false, cond-false, cond_both}
use Rattle.calendar.specs.Sheets.{Almanac}
use Rattle.calendar.specs.Laws.{Lawful}
use Rattle.calendar.specs.Shelves.{almanac_at, AllLawful}

pub at_next : (a : Almanac) (more : List Almanac) (i : ℕ) → almanac_at (a ∷ more) (i + 1) ≡ almanac_at more i
at_next a more i =
    let e : i + 1 - 1 ≡ i = omega arith in
    cond-false _ _ _ (ne_eqb (i + 1) 0 (λ z. omega arith)) ∙ ap (almanac_at more) e

-- a shelf that is cut short has the same calendars at the places that are left
pub at_take : (l : List Almanac) (n i : ℕ) → i < n → almanac_at (take n l) i ≡ almanac_at l i
at_take l zero i h = absurd (not-suc-le-zero h)
at_take [] (suc n) i h = refl
at_take (a ∷ l) (suc n) zero h = refl
at_take (a ∷ l) (suc n) (suc i) h =
    let e : i + 1 ≡ suc i = omega arith in
    subst (λ (k : ℕ). almanac_at (a ∷ take n l) k ≡ almanac_at (a ∷ l) k) e
    (at_next a (take n l) i ∙ at_take l n i (le_of_suc-le-suc h) ∙ sym (at_next a l i))

-- past its first place, a shelf of eight has what its rest has
pub at_rest : (a : Almanac) (l : List Almanac) (i : ℕ) → (i ≢ 0) → i < 8 → almanac_at (a ∷ take 7 l) i ≡ almanac_at l (i - 1)
at_rest a l i other h = cond-false _ _ _ (ne_eqb i 0 other) ∙ at_take l 7 (i - 1) (omega arith)

pub lawful_take : (l : List Almanac) (n : ℕ) → AllLawful l → AllLawful (take n l)
lawful_take l zero all = tt
lawful_take [] (suc n) all = tt
lawful_take (a ∷ l) (suc n) all = (all.0, lawful_take l n all.1)

-- the calendar at a place of a lawful shelf is lawful
pub lawful_at : (l : List Almanac) → AllLawful l → (i : ℕ) → i < length l → Lawful (almanac_at l i)
lawful_at [] all i h = absurd (not-suc-le-zero h)
lawful_at (a ∷ l) all i h =
    cond_both (i == 0) a (almanac_at l (i - 1)) Lawful (λ _. all.0)
    (λ e. let other = eqb-false i 0 e in lawful_at l all.1 (i - 1) (omega arith))
