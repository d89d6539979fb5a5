-- Tests over lists and over days in a row.
use Rattle.std.proofs.Common.{◌≡◌, ℕ, zero, suc, ◌+◌, ◌<◌, Bool, true, false, ◌&&◌, ◌||◌, eqb, ltb, List, [], ◌∷◌, length, get_or, sym, refl, ap, ◌∙◌, ⊎_elim, le_of_suc-le-suc, not-suc-le-zero, arith}
use Rattle.std.proofs.Math.Bool.{or_comm, and-true}
use Rattle.std.proofs.lemmas.Bool.{or_cases, and_parts, and_right, lt-ltb, le-ltb, eq-eqb, ne_eqb, cases_order, true≢false}
use Rattle.rules.specs.Parts.{some_of, each_of, no_items}

-- every element of a list that passes as a whole
pub each_at : {X : Type 0} (f : X → Bool) (xs : List X) (i : ℕ) (d : X) → each_of f xs ≡ true → i < length xs → f (get_or xs i d) ≡ true
each_at f [] i d e h = absurd (not-suc-le-zero h)
each_at f (x ∷ xs) zero d e h = (and_parts (f x) (each_of f xs) e).0
each_at f (x ∷ xs) (suc i) d e h = each_at f xs i d (and_parts (f x) (each_of f xs) e).1 (le_of_suc-le-suc h)

-- what each element that passes shows
pub some_shows : {X : Type 0} (f : X → Bool) (b : Bool) → ((x : X) → f x ≡ true → b ≡ true) → (xs : List X) → some_of f xs ≡ true → b ≡ true
some_shows f b each [] e = absurd (true≢false (sym e))
some_shows f b each (x ∷ xs) e = ⊎_elim (each x) (some_shows f b each xs) (or_cases (f x) (some_of f xs) e)

-- a limit that the test itself shows is none
pub limit_shown : (a b : Bool) → (b ≡ true → a ≡ true) → (a && b) ≡ b
limit_shown true b h = refl
limit_shown false true h = absurd (true≢false (sym (h refl)))
limit_shown false false h = refl

-- the days below d, and d
pub below_next : (w : ℕ → Bool) (n d : ℕ) → ((ltb n d && w n) || (w d && eqb n d)) ≡ (ltb n (d + 1) && w n)
below_next w n d =
    ⊎_elim
    (λ (e : n ≡ d).
    let a = le-ltb n d (omega arith) in
    let b = eq-eqb n d e in
    let c = lt-ltb n (d + 1) (omega arith) in
    ap (λ (x : Bool). (x && w n) || (w d && eqb n d)) a ∙ ap (λ (x : Bool). w d && x) b ∙ and-true (w d) ∙ ap w (sym e) ∙ ap (λ (x : Bool). x && w n) (sym c))
    (⊎_elim
    (λ (l : n < d).
    let a = lt-ltb n d l in
    let b = ne_eqb n d (λ e. omega arith) in
    let c = lt-ltb n (d + 1) (omega arith) in
    ap (λ (x : Bool). (x && w n) || (w d && eqb n d)) a ∙ ap (λ (x : Bool). w n || (w d && x)) b ∙ ap (λ (x : Bool). w n || x) (and_right (w d) false refl) ∙ or_comm (w n) false ∙ ap (λ (x : Bool). x && w n) (sym c))
    (λ (l : d < n).
    let a = le-ltb n d (omega arith) in
    let b = ne_eqb n d (λ e. omega arith) in
    let c = le-ltb n (d + 1) (omega arith) in
    ap (λ (x : Bool). (x && w n) || (w d && eqb n d)) a ∙ ap (λ (x : Bool). w d && x) b ∙ and_right (w d) false refl ∙ ap (λ (x : Bool). x && w n) (sym c)))
    (cases_order n d)

-- a list is empty if its length says so
pub empty_items : {X : Type 0} (xs : List X) → eqb (length xs) 0 ≡ no_items xs
empty_items [] = refl
empty_items (x ∷ xs) = ne_eqb (suc (length xs)) 0 (λ e. omega arith)

-- a limit that is there passes what one of its elements passes
pub limited : {X : Type 0} (f : X → Bool) (xs : List X) {e r : Bool} → e ≡ eqb (length xs) 0 → e ≡ false → r ≡ some_of f xs → r ≡ (no_items xs || some_of f xs)
limited f xs l e r = r ∙ ap (λ (b : Bool). b || some_of f xs) (sym e ∙ l ∙ empty_items xs)
