-- A file and its physical lines: written out and read back.
-- They stay: each is an induction, which the check does not make.
use Rattle.std.proofs.Common.{◌≡◌, ℕ, ◌<◌, Bool, true, false, not, ◌&&◌, ◌||◌, eqb, ◌≢◌, List, [], ◌∷◌, ◌++◌, length, refl, ap, ◌∙◌, arith, tests}
use Rattle.std.specs.List.{AllByRecursion}
use Rattle.std.proofs.lemmas.Bool.{cond-false, cond_both, and_left, and_parts, or_parts, not-true, false≢true, eqb-false, ne_eqb}
use Rattle.lines.specs.Lines.{crlf, glued, physical_lines}
use Rattle.lines.specs.Ended.{proper, well_ended}
use Rattle.file_laws.specs.Physical.{Unbroken, written, LineEnds}

-- past a byte that is no CR or LF
past : (s : Bool) (a b : ℕ) (bs : List ℕ) → a ≢ 13 → a ≢ 10 → proper s (a ∷ b ∷ bs) ≡ proper false (b ∷ bs)
past s a b bs c l = grind (arith, tests)

past_line : (s : Bool) (l bs : List ℕ) → Unbroken l → proper s (l ++ (13 ∷ 10 ∷ bs)) ≡ proper true bs
past_line s [] bs h = refl
past_line s (a ∷ []) bs h = past s a 13 (10 ∷ bs) h.0.0 h.0.1
past_line s (a ∷ b ∷ l) bs h = past s a b (l ++ (13 ∷ 10 ∷ bs)) h.0.0 h.0.1 ∙ past_line false (b ∷ l) bs h.1

past_lines : (ls : List (List ℕ)) → AllByRecursion Unbroken ls → proper true (written ls) ≡ true
past_lines [] h = refl
past_lines (l ∷ ls) h = past_line true l (written ls) h.0 ∙ past_lines ls h.1

begun : (l bs : List ℕ) → well_ended (l ++ (13 ∷ bs)) ≡ proper true (l ++ (13 ∷ bs))
begun [] bs = refl
begun (a ∷ l) bs = refl

stands : (ls : List (List ℕ)) → 0 < length ls → AllByRecursion Unbroken ls → well_ended (written ls) ≡ true
stands [] n h = absurd (omega arith)
stands (l ∷ ls) n h = begun l (10 ∷ written ls) ∙ past_lines (l ∷ ls) h

-- the first physical line
first : (l bs : List ℕ) → Unbroken l → physical_lines (l ++ (13 ∷ 10 ∷ bs)) ≡ l ∷ physical_lines bs
first [] bs h = refl
first (a ∷ []) bs h = cond-false (crlf a 13) _ _ (and_left (eqb a 13) false (ne_eqb a 13 h.0.0))
first (a ∷ b ∷ l) bs h = cond-false (crlf a b) _ _ (and_left (eqb a 13) (eqb b 10) (ne_eqb a 13 h.0.0)) ∙ ap (glued a) (first (b ∷ l) bs h.1)

pub all_lines : (ls : List (List ℕ)) → AllByRecursion Unbroken ls → physical_lines (written ls) ≡ ls
all_lines [] h = refl
all_lines (l ∷ ls) h = first l (written ls) h.0 ∙ ap (λ ms. l ∷ ms) (all_lines ls h.1)

-- back: bytes that end well are lines
OfLines : List ℕ → Type 0
OfLines bs = (l : List ℕ) × (ls : List (List ℕ)) × Unbroken l × AllByRecursion Unbroken ls × (bs ≡ written (l ∷ ls))

marks : (a b : ℕ) (bs : List ℕ) → crlf a b ≡ true → a ∷ b ∷ bs ≡ 13 ∷ 10 ∷ bs
marks a b bs y = grind (arith, tests)

longer : (a : ℕ) (bs : List ℕ) (s : Bool) → (not (eqb a 13 || eqb a 10) && s) ≡ true → OfLines bs → OfLines (a ∷ bs)
unfolding OfLines
longer a bs s f (l, ls, h, k, e) =
    let q = or_parts (eqb a 13) (eqb a 10) (not-true (eqb a 13 || eqb a 10) (and_parts (not (eqb a 13 || eqb a 10)) s f).0) in
    (a ∷ l, ls, ((eqb-false a 13 q.0, eqb-false a 10 q.1), h), k, ap (λ m. a ∷ m) e)

apart : (s : Bool) (a : ℕ) (bs : List ℕ) → proper s (a ∷ bs) ≡ true → OfLines (a ∷ bs)
unfolding OfLines
apart s a [] e = absurd (false≢true e)
apart s a (b ∷ []) e =
    cond_both (crlf a b) true (not (eqb a 13 || eqb a 10) && false) (λ x. x ≡ true → OfLines (a ∷ b ∷ []))
    (λ y _. ([], [], tt, tt, marks a b [] y)) (λ _ f. absurd (false≢true (and_parts (not (eqb a 13 || eqb a 10)) false f).1)) e
apart s a (b ∷ c ∷ bs) e =
    cond_both (crlf a b) (proper true (c ∷ bs)) (not (eqb a 13 || eqb a 10) && proper false (b ∷ c ∷ bs)) (λ x. x ≡ true → OfLines (a ∷ b ∷ c ∷ bs))
    (λ y f. let (l, ls, h, k, e1) = apart true c bs f in ([], l ∷ ls, tt, (h, k), marks a b (c ∷ bs) y ∙ ap (λ m. 13 ∷ 10 ∷ m) e1))
    (λ _ f. longer a (b ∷ c ∷ bs) (proper false (b ∷ c ∷ bs)) f (apart false b (c ∷ bs) (and_parts (not (eqb a 13 || eqb a 10)) (proper false (b ∷ c ∷ bs)) f).1))
    e

only : (bs : List ℕ) → well_ended bs ≡ true → (ls : List (List ℕ)) × (0 < length ls) × AllByRecursion Unbroken ls × (bs ≡ written ls)
unfolding OfLines
only [] e = absurd (false≢true e)
only (a ∷ bs) e = let (l, ls, h, k, e1) = apart true a bs e in (l ∷ ls, omega arith, (h, k), e1)

pub line_ends : LineEnds
line_ends = record { only = only; stands = stands; lines = all_lines }
