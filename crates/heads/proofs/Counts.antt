-- How many heads are of a series, and how many are not after a mark.
use Rattle.std.proofs.Common.{◌≡◌, ℕ, ◌+◌, Bool, true, false, cond, not, List, [], ◌∷◌, nat_eq, refl, ap, ◌∙◌, arith}
use Rattle.std.specs.List.{All, count_by}
use Rattle.std.specs.List.Sorted.{IsPermutation}
use Rattle.std.proofs.lemmas.Bool.{cond-true, cond-false, eq-eqb, ne_eqb, not_from_true, not_from_false}
use Rattle.std.proofs.lemmas.List.Elements.{All-head, All-tail}
use Rattle.std.proofs.lemmas.List.Sorted.{sum_by-IsPermutation}
use Rattle.std.proofs.lemmas.List.Sums.{sum_by-cons}
use Rattle.owed.specs.declared.line.Line.{Line}
use Rattle.owed.specs.Lines.{precedes}
use Rattle.heads.specs.Heads.{heads_of, behind}

module _ {X : Type 0} (p : X → Bool) (x : X) (xs : List X) where
  count_yes : p x ≡ true → count_by p (x ∷ xs) ≡ 1 + count_by p xs
  count_yes e = sum_by-cons (λ y. cond (p y) 1 0) x xs ∙ ap (λ n. n + count_by p xs) (cond-true (p x) 1 0 e)

  count_no : p x ≡ false → count_by p (x ∷ xs) ≡ count_by p xs
  count_no e =
      let counted = sum_by-cons (λ y. cond (p y) 1 0) x xs ∙ ap (λ n. n + count_by p xs) (cond-false (p x) 1 0 e) in
      counted ∙ omega arith

-- ── of a series ──

module _ (number : ℕ) (x : Line) (xs : List Line) where
  pub heads_yes : x.series ≡ number → heads_of number (x ∷ xs) ≡ 1 + heads_of number xs
  unfolding heads_of
  heads_yes e = count_yes (λ head. nat_eq head.series number) x xs (eq-eqb x.series number e)

  pub heads_no : (x.series ≡ number → ⊥) → heads_of number (x ∷ xs) ≡ heads_of number xs
  unfolding heads_of
  heads_no e = count_no (λ head. nat_eq head.series number) x xs (ne_eqb x.series number e)

pub heads_permuted : (number : ℕ) (xs ys : List Line) → IsPermutation xs ys → heads_of number ys ≡ heads_of number xs
unfolding heads_of
heads_permuted number xs ys s = sum_by-IsPermutation (λ head. cond (nat_eq head.series number) 1 0) xs ys s

pub heads_none : (number : ℕ) (xs : List Line) → All (λ head. head.series ≡ number → ⊥) xs → heads_of number xs ≡ 0
unfolding heads_of
heads_none number [] a = refl
heads_none number (x ∷ xs) a = heads_no number x xs (All-head (λ head. head.series ≡ number → ⊥) x xs a)
    ∙ heads_none number xs (All-tail (λ head. head.series ≡ number → ⊥) x xs a)

-- ── not after a mark ──

module _ (mark x : Line) (xs : List Line) where
  pub behind_yes : precedes mark x ≡ false → behind mark (x ∷ xs) ≡ 1 + behind mark xs
  unfolding behind
  behind_yes e = count_yes (λ head. not (precedes mark head)) x xs (not_from_false _ e)

  pub behind_no : precedes mark x ≡ true → behind mark (x ∷ xs) ≡ behind mark xs
  unfolding behind
  behind_no e = count_no (λ head. not (precedes mark head)) x xs (not_from_true _ e)

pub behind_permuted : (mark : Line) (xs ys : List Line) → IsPermutation xs ys → behind mark ys ≡ behind mark xs
unfolding behind
behind_permuted mark xs ys s = sum_by-IsPermutation (λ head. cond (not (precedes mark head)) 1 0) xs ys s
