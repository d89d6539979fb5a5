-- Lists by their first element, filters, and lists of which each element is before all that follow.
-- `rt lemma` finds none of these in the library.
use Rattle.std.proofs.Common.{◌≡◌, zero, suc, Bool, true, false, ◌⊎◌, List, [], ◌∷◌, ◌++◌, sym, refl, ap, ◌∙◌, subst, inl, inr, ⊎_elim, arith}
use Rattle.std.specs.List.{All, AllPairs, Contains, filter}
use Rattle.std.proofs.lemmas.Bool.{both_ways, cond_both}
use Rattle.std.proofs.lemmas.List.Elements.{All-append, All-head, All-tail}
use Rattle.std.proofs.lemmas.List.Kept.{AllPairs-cons}

module _ {X : Type 0} where
  pub contains_first : (x : X) (xs : List X) → Contains (x ∷ xs) x
  contains_first x xs = (zero, omega arith, refl)

  pub contains_later : (y x : X) (xs : List X) → Contains xs x → Contains (y ∷ xs) x
  contains_later y x xs h = (suc h.0, omega (arith, h.1), h.2)

  pub contains_cases : (y x : X) (xs : List X) → Contains (y ∷ xs) x → (y ≡ x) ⊎ Contains xs x
  contains_cases y x xs (zero, lt, e) = inl e
  contains_cases y x xs (suc k, lt, e) = inr (k, omega arith, e)

  pub contains_nothing : (x : X) → Contains [] x → ⊥
  contains_nothing x h = omega (arith, h.1)

  pub all_both : (P Q : X → Type 0) (xs : List X) → All P xs → All Q xs → All (λ x. P x × Q x) xs
  all_both P Q xs a b k d lt = (a k d lt, b k d lt)

  module _ (R : X → X → Type 0) where
    pub pairs_head : (x : X) (xs : List X) → AllPairs R (x ∷ xs) → All (R x) xs
    pairs_head x xs h k d lt = h zero (suc k) d (omega arith) (omega arith)

    pub pairs_tail : (x : X) (xs : List X) → AllPairs R (x ∷ xs) → AllPairs R xs
    pairs_tail x xs h i j d lt within = h (suc i) (suc j) d (omega arith) (omega arith)

    pub pairs_none : AllPairs R []
    pairs_none i j d lt within = absurd (omega arith)

    pub pairs_append : (xs ys : List X) → AllPairs R xs → AllPairs R ys → All (λ x. All (R x) ys) xs → AllPairs R (xs ++ ys)
    pairs_append [] ys a b c = b
    pairs_append (x ∷ xs) ys a b c =
        AllPairs-cons R x (xs ++ ys) (All-append (R x) xs ys (pairs_head x xs a) (All-head (λ y. All (R y) ys) x xs c))
        (pairs_append xs ys (pairs_tail x xs a) b (All-tail (λ y. All (R y) ys) x xs c))

  pub filter_all : (t : X → Bool) (xs : List X) → All (λ x. t x ≡ true) xs → filter t xs ≡ xs
  filter_all t [] a = refl
  filter_all t (x ∷ xs) a = rw (All-head (λ y. t y ≡ true) x xs a, filter_all t xs (All-tail (λ y. t y ≡ true) x xs a)) refl

  pub filter_none : (t : X → Bool) (xs : List X) → All (λ x. t x ≡ false) xs → filter t xs ≡ []
  filter_none t [] a = refl
  filter_none t (x ∷ xs) a = rw (All-head (λ y. t y ≡ false) x xs a, filter_none t xs (All-tail (λ y. t y ≡ false) x xs a)) refl

  pub filter_contains : (t : X → Bool) (x : X) (xs : List X) → Contains xs x → t x ≡ true → Contains (filter t xs) x
  filter_contains t x [] h e = absurd (contains_nothing x h)
  filter_contains t x (y ∷ ys) h e = cond_both (t y) (y ∷ filter t ys) (filter t ys) (λ l. Contains l x)
      (λ _. ⊎_elim (λ s. subst (λ z. Contains (z ∷ filter t ys) x) (sym s) (contains_first x (filter t ys))) (λ j. contains_later y x (filter t ys) (filter_contains t x ys j e)) (contains_cases y x ys h))
      (λ no. ⊎_elim (λ s. absurd (both_ways (t y) no (ap t s ∙ e))) (λ j. filter_contains t x ys j e) (contains_cases y x ys h))

  -- a test that is stricter than one that was made
  pub filter_stricter : (p q : X → Bool) → ((x : X) → q x ≡ true → p x ≡ true) → (xs : List X) → filter q (filter p xs) ≡ filter q xs
  filter_stricter p q h [] = refl
  filter_stricter p q h (x ∷ xs) = let i = filter_stricter p q h xs in let k = h x in grind arith

  -- two tests in either order
  pub filter_swap : (p q : X → Bool) (xs : List X) → filter p (filter q xs) ≡ filter q (filter p xs)
  filter_swap p q [] = refl
  filter_swap p q (x ∷ xs) = let i = filter_swap p q xs in grind arith
