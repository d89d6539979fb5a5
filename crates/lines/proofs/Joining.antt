-- The lines read byte by byte are the physical lines put together.
-- They stay: each is an induction, which the check does not make.
use Rattle.std.proofs.Common.{◌≡◌, ℕ, ◌+◌, true, false, cond, List, [], ◌∷◌, sym, refl, ap, ◌∙◌, ⊎_elim, arith}
use Rattle.std.proofs.lemmas.Bool.{cond-true, cond-false, cases_Bool, cond_both}
use Rattle.std.proofs.lemmas.Bool.Decides.{nat_tests}
use Rattle.lines.specs.Lines.{Line, crlf, blank, onto, ended, begun, split, lines, glued, physical_lines, go_on, longer, joined, logical_lines}

pushed : ℕ → ℕ → List Line → List Line
pushed p a [] = record { place = p; text = a ∷ [] } ∷ []
pushed p a (m ∷ ms) = record { place = m.place; text = a ∷ m.text } ∷ ms

longer_pushed : (p a : ℕ) (l : List ℕ) (ms : List Line) → longer p (a ∷ l) ms ≡ pushed p a (longer p l ms)
unfolding pushed
longer_pushed p a l [] = refl
longer_pushed p a l (m ∷ ms) = refl

joined_glued : (p a : ℕ) (ls : List (List ℕ)) → joined p (glued a ls) ≡ pushed p a (joined p ls)
unfolding pushed
joined_glued p a [] = refl
joined_glued p a (l ∷ ls) =
    elim (go_on ls) as (λ b. cond b (longer p (a ∷ l) (joined (p + 1) ls)) (record { place = p; text = a ∷ l } ∷ joined (p + 1) ls) ≡ pushed p a (cond b (longer p l (joined (p + 1) ls)) (record { place = p; text = l } ∷ joined (p + 1) ls)))
    [ true ↦ longer_pushed p a l (joined (p + 1) ls) | false ↦ refl ]

go_on_glued : (c : ℕ) (ls : List (List ℕ)) → go_on (glued c ls) ≡ blank c
go_on_glued c [] = refl
go_on_glued c (l ∷ ls) = refl

no_blank : (c d : ℕ) → crlf c d ≡ true → blank c ≡ false
no_blank c d e = grind (arith, nat_tests)

goes_on : (c : ℕ) (bs : List ℕ) → go_on (physical_lines (c ∷ bs)) ≡ blank c
goes_on c [] = refl
goes_on c (d ∷ bs) =
    cond_both (crlf c d) ([] ∷ physical_lines bs) (glued c (physical_lines (d ∷ bs))) (λ ls. go_on ls ≡ blank c)
    (λ e. sym (no_blank c d e)) (λ _. go_on_glued c (physical_lines (d ∷ bs)))

-- past a blank, which begins no line's end
past_blank : (p c : ℕ) (bs : List ℕ) → blank c ≡ true → split p (c ∷ bs) ≡ onto c (split p bs)
past_blank p c [] e = refl
past_blank p c (d ∷ []) e = cond-false (crlf c d) _ _ (let g : crlf c d ≡ false = grind (arith, nat_tests) in g)
past_blank p c (d ∷ x ∷ bs) e = cond-false (crlf c d) _ _ (let g : crlf c d ≡ false = grind (arith, nat_tests) in g)

same_lines : (p a : ℕ) (bs : List ℕ) → joined p (physical_lines (a ∷ bs)) ≡ begun p (split p (a ∷ bs))
unfolding pushed
same_lines p a [] = refl
same_lines p a (b ∷ []) =
    elim (crlf a b) as (λ t. joined p (cond t ([] ∷ []) (glued a ((b ∷ []) ∷ []))) ≡ begun p (cond t (ended []) (onto a (onto b (ended [])))))
    [ true ↦ refl | false ↦ refl ]
same_lines p a (b ∷ c ∷ bs) =
    let ih = same_lines (p + 1) c bs in
    let g = goes_on c bs in
    elim (crlf a b) as (λ t. joined p (cond t ([] ∷ physical_lines (c ∷ bs)) (glued a (physical_lines (b ∷ c ∷ bs)))) ≡ begun p (cond t (cond (blank c) (split (p + 1) bs) (ended (begun (p + 1) (split (p + 1) (c ∷ bs))))) (onto a (split p (b ∷ c ∷ bs))))) [
      | true ↦
          ap (λ t. cond t (longer p [] (joined (p + 1) (physical_lines (c ∷ bs)))) (record { place = p; text = [] } ∷ joined (p + 1) (physical_lines (c ∷ bs)))) g
          ∙ ap (λ ls. cond (blank c) (longer p [] ls) (record { place = p; text = [] } ∷ ls)) ih
          ∙ ⊎_elim
          (λ y. cond-true (blank c) _ _ y ∙ ap (λ r. longer p [] (begun (p + 1) r)) (past_blank (p + 1) c bs y) ∙ sym (ap (begun p) (cond-true (blank c) _ _ y)))
          (λ n. cond-false (blank c) _ _ n ∙ sym (ap (begun p) (cond-false (blank c) _ _ n)))
          (cases_Bool (blank c))
      | false ↦ joined_glued p a (physical_lines (b ∷ c ∷ bs)) ∙ ap (pushed p a) (same_lines p b (c ∷ bs))
    ]

pub the_lines : (bs : List ℕ) → lines 1 bs ≡ logical_lines bs
the_lines [] = refl
the_lines (b ∷ bs) = sym (same_lines 1 b bs)
