-- Which entries a list holds, and in which of its first places.
-- `rt lemma` finds none of these in the library.
use Rattle.std.proofs.Common.{◌≡◌, ℕ, zero, suc, ◌<◌, ◌≤◌, ◌⊎◌, List, ◌∷◌, length, get_or, take, sym, refl, ◌∙◌, subst, inl, inr, arith}
use Rattle.std.specs.List.Sorted.{IsPermutation}
use Rattle.std.specs.List.{ContainsAt as Has}
use Rattle.std.proofs.lemmas.List.{get_or-take, length-take-le}
use Rattle.std.proofs.ByRecursion.{has_get_or, has_shuffled}
use Rattle.std.proofs.lemmas.List.Sorted.{IsPermutation-sym}

module _ {X : Type 0} where
  pub has_first : (x : X) (xs : List X) → Has (x ∷ xs) x
  has_first x xs = (zero, omega arith, λ d. refl)

  pub has_later : (x y : X) (xs : List X) → Has xs y → Has (x ∷ xs) y
  has_later x y xs h = (suc h.0, omega (arith, h.1), h.2)

  pub has_cases : (x y : X) (xs : List X) → Has (x ∷ xs) y → (x ≡ y) ⊎ Has xs y
  has_cases x y xs (zero, l, e) = inl (e x)
  has_cases x y xs (suc k, l, e) = inr (k, omega arith, e)

  -- the first n places hold what stands at each of them
  pub has_place : (xs : List X) (n k : ℕ) (d : X) → k < n → n ≤ length xs → Has (take n xs) (get_or xs k d)
  has_place xs n k d l h = subst (Has (take n xs)) (get_or-take n xs k d l) (has_get_or (take n xs) k d (omega (arith, length-take-le n xs h)))

  -- and what they hold stands at one of them
  pub place_of : (xs : List X) (n : ℕ) (y : X) → n ≤ length xs → Has (take n xs) y → (k : ℕ) × (k < n) × ((d : X) → get_or xs k d ≡ y)
  place_of xs n y h (k, l, e) =
      let in' : k < n = omega (arith, length-take-le n xs h) in
      (k, in', λ d. sym (get_or-take n xs k d in') ∙ e d)

  -- lists of the same entries in another order hold the same
  pub same_members : (xs ys : List X) → IsPermutation xs ys → (y : X) → (Has xs y → Has ys y) × (Has ys y → Has xs y)
  same_members xs ys s y = (has_shuffled xs ys y s, has_shuffled ys xs y (IsPermutation-sym xs ys s))

  -- `all` has x and the others, in any order: so it is after a push of x, and so it was before a pop of x
  module _ (x : X) (others all : List X) (s : IsPermutation (x ∷ others) all) where
    pub with_itself : Has all x
    with_itself = (same_members (x ∷ others) all s x).0 (has_first x others)

    pub with_keeps : (y : X) → Has others y → Has all y
    with_keeps y h = (same_members (x ∷ others) all s y).0 (has_later x y others h)

    pub with_only : (y : X) → Has all y → (x ≡ y) ⊎ Has others y
    with_only y h = has_cases x y others ((same_members (x ∷ others) all s y).1 h)
