-- What is in the places after a part of them was lent and came back changed.
-- The library has the single steps, as `drop-drop` and `take_more`.
use Rattle.std.proofs.Common.{◌≡◌, ℕ, ◌+◌, ◌-◌, ◌<◌, ◌≤◌, List, [], ◌∷◌, ◌++◌, length, get_or, take, drop, set, sym, ap, ◌∙◌, subst, arith}
use Rattle.std.specs.List.Sorted.{IsPermutation}
use Rattle.std.proofs.lemmas.List.{take_at, take-append-le, length-append, take_more_set, take_more, take_all, get_or-take, drop-drop}
use Rattle.std.proofs.lemmas.List.Sorted.{IsPermutation-sym, IsPermutation-trans, IsPermutation-to_front, IsPermutation-cons}

module _ {X : Type 0} where
  pub front_at : (zs ys : List X) (n : ℕ) → take n zs ≡ ys → (k : ℕ) (d : X) → k < n → get_or zs k d ≡ get_or ys k d
  front_at zs ys n e k d h = sym (get_or-take n zs k d h) ∙ ap (λ (l : List X). get_or l k d) e

  -- x is written after the first `used`, and these m places come back as ys
  pub pushes : (xs ys : List X) (used m : ℕ) (x : X) → m ≡ used + 1 → used < length xs → IsPermutation (take m (set xs used x)) ys → IsPermutation (x ∷ take used xs) ys
  pushes xs ys used m x e h s =
      let is : take m (set xs used x) ≡ take used xs ++ x ∷ [] = ap (λ (k : ℕ). take k (set xs used x)) e ∙ take_more_set xs used x h in
      IsPermutation-trans _ _ _ (IsPermutation-sym _ _ (IsPermutation-to_front (take used xs) x)) (subst (λ (l : List X). IsPermutation l ys) is s)

  -- x stands last in ws, and the m places before it come back as ys
  pub pops : (ws ys : List X) (m : ℕ) (x : X) → length ws ≡ m + 1 → get_or ws m x ≡ x → IsPermutation (take m ws) ys → IsPermutation ws (x ∷ ys)
  pops ws ys m x long last s =
      let is : ws ≡ take m ws ++ x ∷ [] =
      sym (take_all (m + 1) ws (omega arith)) ∙ take_more ws m x (omega arith) ∙ ap (λ y. take m ws ++ y ∷ []) last in
      subst (λ l. IsPermutation l (x ∷ ys)) (sym is) (IsPermutation-trans _ _ _ (IsPermutation-to_front (take m ws) x) (IsPermutation-cons x (take m ws) ys s))

  -- ys came back in the first n places of a part that was lent itself
  pub lent_twice : (ys part all : List X) (n : ℕ) → length ys ≡ n → take n ((ys ++ part) ++ all) ≡ ys
  lent_twice ys part all n long = take-append-le n (ys ++ part) all (omega (arith, length-append ys part)) ∙ take_at ys part n long

  -- what two lists have in common from a place on, they have in common from any later place on, and so with a third
  pub past_later : (xs ys zs : List X) (m n : ℕ) → m ≤ n → drop m xs ≡ drop m ys → drop n ys ≡ drop n zs → drop n xs ≡ drop n zs
  past_later xs ys zs m n h e f =
      let is : m + (n - m) ≡ n = omega arith in
      let at : (l : List X) → drop n l ≡ drop (n - m) (drop m l) = λ l. ap (λ k. drop k l) (sym is) ∙ sym (drop-drop (n - m) m l) in
      at xs ∙ ap (drop (n - m)) e ∙ sym (at ys) ∙ f
