-- The words of a line as its parts between blanks.
use Rattle.std.proofs.Common.{◌≡◌, ℕ, ◌==◌, Bool, true, false, not, cond, List, [], ◌∷◌, length, filter, sym, refl, ap, ◌∙◌, ⊎_elim, arith}
use Rattle.std.proofs.lemmas.Bool.{cases_Bool, cond-true, cond-false, true≢false, ne_eqb}
use Rattle.std.specs.List.{slice_split, onto_first as onto_part}
use Rattle.commands.specs.Words.{blank, at_break, onto_first, words}

-- where no word goes on, the first part is empty
first_empty : (bs : List ℕ) → at_break bs ≡ true → (ps : List (List ℕ)) × (slice_split blank bs ≡ [] ∷ ps)
first_empty [] e = ([], refl)
first_empty (b ∷ bs) e = (slice_split blank bs, cond-true _ _ _ e)

first_filled : (bs : List ℕ) → at_break bs ≡ false → (c : ℕ) × (p : List ℕ) × (ps : List (List ℕ)) × (slice_split blank bs ≡ (c ∷ p) ∷ ps)
first_filled [] e = absurd (true≢false e)
first_filled (b ∷ bs) e = by (slice_split blank bs) (cond-false _ _ _ e)
  where
    by : (parts : List (List ℕ)) → slice_split blank (b ∷ bs) ≡ onto_part b parts → (c : ℕ) × (p : List ℕ) × (ps : List (List ℕ)) × (slice_split blank (b ∷ bs) ≡ (c ∷ p) ∷ ps)
    by [] f = (b, [], [], f)
    by (p ∷ ps) f = (b, p, ps, f)

abbrev pub not_empty : List ℕ → Bool
not_empty w = not (length w == 0)

kept : (b : ℕ) (w : List ℕ) (ws : List (List ℕ)) → filter not_empty ((b ∷ w) ∷ ws) ≡ (b ∷ w) ∷ filter not_empty ws
kept b w ws = cond-true _ _ _ (ap not (ne_eqb (length (b ∷ w)) 0 (λ z. omega arith)))

-- a byte that is no blank, before words that are the parts that are not empty
one_more : (b : ℕ) (bs : List ℕ) → words bs ≡ filter not_empty (slice_split blank bs) → cond (at_break bs) ((b ∷ []) ∷ words bs) (onto_first b (words bs)) ≡ filter not_empty (onto_part b (slice_split blank bs))
one_more b bs same = ⊎_elim ends goes_on (cases_Bool (at_break bs))
  where
    ends : at_break bs ≡ true → cond (at_break bs) ((b ∷ []) ∷ words bs) (onto_first b (words bs)) ≡ filter not_empty (onto_part b (slice_split blank bs))
    ends e =
        let (ps, s) = first_empty bs e in
        cond-true _ _ _ e ∙ ap (λ ws. (b ∷ []) ∷ ws) (same ∙ ap (filter not_empty) s) ∙
        sym (ap (λ parts. filter not_empty (onto_part b parts)) s)

    goes_on : at_break bs ≡ false → cond (at_break bs) ((b ∷ []) ∷ words bs) (onto_first b (words bs)) ≡ filter not_empty (onto_part b (slice_split blank bs))
    goes_on e =
        let (c, p, ps, s) = first_filled bs e in
        cond-false _ _ _ e ∙ ap (onto_first b) (same ∙ ap (filter not_empty) s ∙ kept c p ps) ∙
        sym (kept b (c ∷ p) ps) ∙ sym (ap (λ parts. filter not_empty (onto_part b parts)) s)

-- the words are the parts that are not empty
pub words_split : (bs : List ℕ) → words bs ≡ filter not_empty (slice_split blank bs)
words_split [] = refl
words_split (b ∷ bs) =
    ⊎_elim (λ e. cond-true _ _ _ e ∙ words_split bs ∙ sym (ap (filter not_empty) (cond-true _ _ _ e)))
    (λ e. cond-false _ _ _ e ∙ one_more b bs (words_split bs) ∙ sym (ap (filter not_empty) (cond-false _ _ _ e))) (cases_Bool (blank b))
