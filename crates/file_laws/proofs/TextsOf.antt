-- Texts: letter by letter, and piece by piece.
-- They stay: each is an induction, which the check does not make.
use Rattle.std.proofs.Common.{◌≡◌, ℕ, true, false, eqb, List, [], ◌∷◌, ◌++◌, map, refl, ap, ◌∙◌, ⊎_elim, arith}
use Rattle.std.specs.Char.{to_ascii_uppercase}
use Rattle.std.specs.List.{AllByRecursion}
use Rattle.std.proofs.lemmas.Bool.{cond-true, cond-false, cases_Bool, and_parts, and_from, or_left, or_right, or_from, false≢true, eqb-true, eqb-false, eq-eqb, ne_eqb}
use Rattle.text.specs.Letters.{alike, same}
use Rattle.text.specs.Pieces.{up_to, past, has, onto_first, pieces}
use Rattle.file_laws.specs.Texts.{SameText, Piece, separated, PiecesOfAText}

same_only : (xs ys : List ℕ) → same xs ys ≡ true → map to_ascii_uppercase xs ≡ map to_ascii_uppercase ys
unfolding alike
same_only [] [] e = refl
same_only [] (y ∷ ys) e = absurd (false≢true e)
same_only (x ∷ xs) [] e = absurd (false≢true e)
same_only (x ∷ xs) (y ∷ ys) e =
    let q = and_parts (alike x y) (same xs ys) e in
    ap (λ a. a ∷ map to_ascii_uppercase xs) (eqb-true (to_ascii_uppercase x) (to_ascii_uppercase y) q.0) ∙ ap (λ as'. to_ascii_uppercase y ∷ as') (same_only xs ys q.1)

same_stands : (xs ys : List ℕ) → map to_ascii_uppercase xs ≡ map to_ascii_uppercase ys → same xs ys ≡ true
unfolding alike
same_stands [] [] e = refl
same_stands [] (y ∷ ys) e = let z : ◌≡◌ {A = ℕ} 0 1 = cc in absurd (omega arith)
same_stands (x ∷ xs) [] e = let z : ◌≡◌ {A = ℕ} 0 1 = cc in absurd (omega arith)
same_stands (x ∷ xs) (y ∷ ys) e =
    let h : to_ascii_uppercase x ≡ to_ascii_uppercase y = cc in
    let t : map to_ascii_uppercase xs ≡ map to_ascii_uppercase ys = cc in
    and_from (alike x y) (same xs ys) (eq-eqb (to_ascii_uppercase x) (to_ascii_uppercase y) h) (same_stands xs ys t)

pub same_law : SameText
same_law = record { only = same_only; stands = same_stands }

longer : (mark b : ℕ) (p : List ℕ) (ps : List (List ℕ)) → b ∷ separated mark p ps ≡ separated mark (b ∷ p) ps
longer mark b p [] = refl
longer mark b p (q ∷ ps) = refl

InPieces : ℕ → List ℕ → Type 0
InPieces mark bs = (p : List ℕ) × (ps : List (List ℕ)) × Piece mark p × AllByRecursion (Piece mark) ps × (bs ≡ separated mark p ps)

more : (mark b : ℕ) (bs : List ℕ) → InPieces mark bs → InPieces mark (b ∷ bs)
unfolding InPieces
more mark b bs (p, ps, h, k, e) =
    ⊎_elim
    (λ (y : eqb b mark ≡ true). ([], p ∷ ps, tt, (h, k), ap (λ m. m ∷ bs) (eqb-true b mark y) ∙ ap (λ m. mark ∷ m) e))
    (λ (n : eqb b mark ≡ false). (b ∷ p, ps, (eqb-false b mark n, h), k, ap (λ m. b ∷ m) e ∙ longer mark b p ps))
    (cases_Bool (eqb b mark))

apart : (mark : ℕ) (bs : List ℕ) → InPieces mark bs
unfolding InPieces
apart mark [] = ([], [], tt, tt, refl)
apart mark (b ∷ bs) = more mark b bs (apart mark bs)

last : (mark : ℕ) (p : List ℕ) → Piece mark p → pieces mark p ≡ p ∷ []
last mark [] h = refl
last mark (b ∷ p) h = cond-false (eqb b mark) _ _ (ne_eqb b mark h.0) ∙ ap (onto_first b) (last mark p h.1)

next : (mark : ℕ) (p bs : List ℕ) → Piece mark p → pieces mark (p ++ (mark ∷ bs)) ≡ p ∷ pieces mark bs
next mark [] bs h = cond-true (eqb mark mark) _ _ (eq-eqb mark mark refl)
next mark (b ∷ p) bs h = cond-false (eqb b mark) _ _ (ne_eqb b mark h.0) ∙ ap (onto_first b) (next mark p bs h.1)

stands : (mark : ℕ) (p : List ℕ) (ps : List (List ℕ)) → Piece mark p → AllByRecursion (Piece mark) ps → pieces mark (separated mark p ps) ≡ p ∷ ps
stands mark p [] h k = last mark p h
stands mark p (q ∷ ps) h k = next mark p (separated mark q ps) h ∙ ap (λ qs. p ∷ qs) (stands mark q ps k.0 k.1)

up_to_end : (mark : ℕ) (p : List ℕ) → Piece mark p → up_to mark p ≡ p
up_to_end mark [] h = refl
up_to_end mark (b ∷ p) h = cond-false (eqb b mark) _ _ (ne_eqb b mark h.0) ∙ ap (λ q. b ∷ q) (up_to_end mark p h.1)

up_to_mark : (mark : ℕ) (p bs : List ℕ) → Piece mark p → up_to mark (p ++ (mark ∷ bs)) ≡ p
up_to_mark mark [] bs h = cond-true (eqb mark mark) _ _ (eq-eqb mark mark refl)
up_to_mark mark (b ∷ p) bs h = cond-false (eqb b mark) _ _ (ne_eqb b mark h.0) ∙ ap (λ q. b ∷ q) (up_to_mark mark p bs h.1)

first : (mark : ℕ) (p : List ℕ) (ps : List (List ℕ)) → Piece mark p → up_to mark (separated mark p ps) ≡ p
first mark p [] h = up_to_end mark p h
first mark p (q ∷ ps) h = up_to_mark mark p (separated mark q ps) h

alone : (mark : ℕ) (p : List ℕ) → Piece mark p → (has mark p ≡ false) × (past mark p ≡ [])
alone mark [] h = (refl, refl)
alone mark (b ∷ p) h =
    let (n, e) = alone mark p h.1 in
    (or_from (eqb b mark) (has mark p) (ne_eqb b mark h.0) n, cond-false (eqb b mark) _ _ (ne_eqb b mark h.0) ∙ e)

others : (mark : ℕ) (p bs : List ℕ) → Piece mark p → (has mark (p ++ (mark ∷ bs)) ≡ true) × (past mark (p ++ (mark ∷ bs)) ≡ bs)
others mark [] bs h = (or_left (eqb mark mark) (has mark bs) (eq-eqb mark mark refl), cond-true (eqb mark mark) _ _ (eq-eqb mark mark refl))
others mark (b ∷ p) bs h =
    let (y, e) = others mark p bs h.1 in
    (or_right (eqb b mark) (has mark (p ++ (mark ∷ bs))) y, cond-false (eqb b mark) _ _ (ne_eqb b mark h.0) ∙ e)

only : (mark : ℕ) (bs : List ℕ) → (p : List ℕ) × (ps : List (List ℕ)) × Piece mark p × AllByRecursion (Piece mark) ps × (bs ≡ separated mark p ps)
unfolding InPieces
only mark bs = apart mark bs

pub pieces_law : PiecesOfAText
pieces_law = record { only = only; stands = stands; first = first; alone = alone; others = others }
