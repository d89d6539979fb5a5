-- A file has no more lines than pairs of bytes, and one.
-- They stay: each is an induction, which the check does not make.
use Rattle.std.proofs.Common.{ℕ, ◌+◌, ◌*◌, ◌^◌, ◌≤◌, cond, List, [], ◌∷◌, length, arith}
use Rattle.std.proofs.lemmas.Bool.{cond_both}
use Rattle.lines.specs.declared.cursor.Cursor.{Cursor}
use Rattle.lines.specs.Lines.{crlf, blank, onto, ended, begun, split, lines}
use Rattle.lines.specs.View.{view}

few_later : (p a : ℕ) (bs : List ℕ) → 2 * length (split p (a ∷ bs)).later ≤ length bs
few_later p a [] = omega arith
few_later p a (b ∷ []) = cond_both (crlf a b) (ended []) (onto a (onto b (ended []))) (λ r. 2 * length r.later ≤ 1) (λ _. omega arith) (λ _. omega arith)
few_later p a (b ∷ c ∷ []) = cond_both (crlf a b) (cond (blank c) (ended []) (ended (begun (p + 1) (onto c (ended []))))) (onto a (split p (b ∷ c ∷ []))) (λ r. 2 * length r.later ≤ 2) (λ _. cond_both (blank c) (ended []) (ended (begun (p + 1) (onto c (ended [])))) (λ r. 2 * length r.later ≤ 2) (λ _. omega arith) (λ _. omega arith)) (λ _. omega (arith, few_later p b (c ∷ [])))
few_later p a (b ∷ c ∷ x ∷ bs) =
    cond_both (crlf a b) (cond (blank c) (split (p + 1) (x ∷ bs)) (ended (begun (p + 1) (split (p + 1) (c ∷ x ∷ bs))))) (onto a (split p (b ∷ c ∷ x ∷ bs)))
    (λ r. 2 * length r.later ≤ length (b ∷ c ∷ x ∷ bs))
    (λ _. cond_both (blank c) (split (p + 1) (x ∷ bs)) (ended (begun (p + 1) (split (p + 1) (c ∷ x ∷ bs)))) (λ r. 2 * length r.later ≤ length (b ∷ c ∷ x ∷ bs)) (λ _. omega (arith, few_later (p + 1) x bs)) (λ _. omega (arith, few_later (p + 1) c (x ∷ bs))))
    (λ _. omega (arith, few_later p b (c ∷ x ∷ bs)))

few_lines : (p : ℕ) (bs : List ℕ) → 2 * length (lines p bs) ≤ length bs + 1
few_lines p [] = omega arith
few_lines p (b ∷ bs) = omega (arith, few_later p b bs)

pub few_view : (c : Cursor) → length (view c) ≤ 2 ^ 63 + 1
few_view c = omega (arith, few_lines c.place c.rest.now, c.numbered)
