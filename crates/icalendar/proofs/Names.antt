-- The first calendar that bears a name, by the shelf's search and by the definition.
-- The check does not find it: the search compares small letters, the definition capitals.
use Rattle.std.proofs.Common.{◌≡◌, ℕ, zero, suc, ◌+◌, true, false, List, [], ◌∷◌, map, Some, None, Option, sym, refl, ap, ◌∙◌, ⊎_elim, subst, arith}
use Rattle.std.specs.Char.{to_ascii_uppercase, to_ascii_lowercase}
use Rattle.std.proofs.lemmas.Bool.{cond-true, cond-false, cases_Bool, and_parts, and_from, eqb-true, eq-eqb}
use Rattle.std.proofs.lemmas.Bool.Decides.{nat_tests}
use Rattle.text.specs.Letters.{alike, same}
use Rattle.calendar.specs.Sheets.{Almanac}
use Rattle.calendar.specs.Shelves.{almanac_at, Bears, Found}
use Rattle.calendar.specs.Places.{at_next}
use Rattle.icalendar.specs.Verdicts.{place_named, further}

-- a letter is the same in capitals exactly if it is the same in small letters
up_low : (a b : ℕ) → to_ascii_uppercase a ≡ to_ascii_uppercase b → to_ascii_lowercase a ≡ to_ascii_lowercase b
up_low a b h = grind (arith, nat_tests)

low_up : (a b : ℕ) → to_ascii_lowercase a ≡ to_ascii_lowercase b → to_ascii_uppercase a ≡ to_ascii_uppercase b
low_up a b h = grind (arith, nat_tests)

same_low : (xs ys : List ℕ) → same xs ys ≡ true → map to_ascii_lowercase xs ≡ map to_ascii_lowercase ys
unfolding alike
same_low [] [] h = refl
same_low [] (y ∷ ys) h = absurd (let z : ◌≡◌ {A = ℕ} 0 1 = cc in omega arith)
same_low (x ∷ xs) [] h = absurd (let z : ◌≡◌ {A = ℕ} 0 1 = cc in omega arith)
same_low (x ∷ xs) (y ∷ ys) h =
    let q = and_parts (alike x y) (same xs ys) h in
    ap (λ a. a ∷ map to_ascii_lowercase xs) (up_low x y (eqb-true (to_ascii_uppercase x) (to_ascii_uppercase y) q.0)) ∙ ap (λ as'. to_ascii_lowercase y ∷ as') (same_low xs ys q.1)

low_same : (xs ys : List ℕ) → map to_ascii_lowercase xs ≡ map to_ascii_lowercase ys → same xs ys ≡ true
unfolding alike
low_same [] [] h = refl
low_same [] (y ∷ ys) h = absurd (let z : ◌≡◌ {A = ℕ} 0 1 = cc in omega arith)
low_same (x ∷ xs) [] h = absurd (let z : ◌≡◌ {A = ℕ} 0 1 = cc in omega arith)
low_same (x ∷ xs) (y ∷ ys) h =
    let l : to_ascii_lowercase x ≡ to_ascii_lowercase y = cc in
    let t : map to_ascii_lowercase xs ≡ map to_ascii_lowercase ys = cc in
    and_from (alike x y) (same xs ys) (eq-eqb (to_ascii_uppercase x) (to_ascii_uppercase y) (low_up x y l)) (low_same xs ys t)

-- a further place stands in the rest of the shelf
later : (a : Almanac) (more : List Almanac) (i : ℕ) → almanac_at (a ∷ more) (suc i) ≡ almanac_at more i
later a more i =
    let next : i + 1 ≡ suc i = omega arith in
    subst (λ k. almanac_at (a ∷ more) k ≡ almanac_at more i) next (at_next a more i)

next_bears : (a : Almanac) (more : List Almanac) (name : List ℕ) (i : ℕ) → Bears (a ∷ more) name (suc i) → Bears more name i
next_bears a more name i b = record { within = omega (arith, b.within); same = ap (λ x. map to_ascii_lowercase x.name) (sym (later a more i)) ∙ b.same }

back_bears : (a : Almanac) (more : List Almanac) (name : List ℕ) (i : ℕ) → Bears more name i → Bears (a ∷ more) name (suc i)
back_bears a more name i b = record { within = omega (arith, b.within); same = ap (λ x. map to_ascii_lowercase x.name) (later a more i) ∙ b.same }

first_bears : (a : Almanac) (more : List Almanac) (name : List ℕ) → same a.name name ≡ true → Bears (a ∷ more) name 0
first_bears a more name e = record { within = omega arith; same = same_low a.name name e }

-- the place that a search found, where the first calendar bears the name, and where it does not
here : (a : Almanac) (more : List Almanac) (name : List ℕ) (r : Option ℕ) → same a.name name ≡ true → Found (a ∷ more) name r → r ≡ Some 0
here a more name None e h = absurd (h 0 (first_bears a more name e))
here a more name (Some zero) e h = refl
here a more name (Some (suc i)) e h = absurd (h.earlier 0 (omega arith) (first_bears a more name e))

not_here : (a : Almanac) (more : List Almanac) (name : List ℕ) (r : Option ℕ) → same a.name name ≡ false → Found (a ∷ more) name r → (q : Option ℕ) × Found more name q × (r ≡ further q)
not_here a more name None e h = (None, (λ k b. h (suc k) (back_bears a more name k b)), refl)
not_here a more name (Some zero) e h =
    absurd (let t = low_same a.name name h.bears.same in let z : ◌≡◌ {A = ℕ} 0 1 = cc in omega arith)
not_here a more name (Some (suc i)) e h =
    (Some i, record { bears = next_bears a more name i h.bears; earlier = λ k l b. h.earlier (suc k) (omega (arith, l)) (back_bears a more name k b) }, refl)

pub placed : (shelf : List Almanac) (name : List ℕ) (r : Option ℕ) → Found shelf name r → r ≡ place_named shelf name
placed [] name None h = refl
placed [] name (Some i) h = absurd (omega (arith, h.bears.within))
placed (a ∷ more) name r h =
    ⊎_elim
    (λ e. here a more name r e h ∙ sym (cond-true (same a.name name) _ _ e))
    (λ e. let q = not_here a more name r e h in q.2 ∙ ap further (placed more name q.0 q.1) ∙ sym (cond-false (same a.name name) _ _ e))
    (cases_Bool (same a.name name))
