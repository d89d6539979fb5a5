-- A text is cut at its first separator: a first piece, and the pieces of what stands past it.
-- They stay: each is an induction, which the check does not make.
use Rattle.std.proofs.Common.{◌≡◌, ◌<◌, ℕ, true, false, cond, ◌||◌, eqb, List, [], ◌∷◌, length, drop, Some, None, Option, MatchOption, IfSome, sym, refl, ap, ◌∙◌, arith}
use Rattle.text.specs.Pieces.{up_to, past, has, pieces, onto_first, ahead}
use Rattle.text.specs.declared.pieces.Pieces.{Pieces}

pub cut : (mark : ℕ) (t : List ℕ) → pieces mark t ≡ up_to mark t ∷ cond (has mark t) (pieces mark (past mark t)) []
cut mark [] = refl
cut mark (b ∷ bs) =
    elim (eqb b mark) as (λ e. cond e ([] ∷ pieces mark bs) (onto_first b (pieces mark bs)) ≡ cond e [] (b ∷ up_to mark bs) ∷ cond (e || has mark bs) (pieces mark (cond e bs (past mark bs))) [])
    [ true ↦ refl | false ↦ ap (onto_first b) (cut mark bs) ]

-- what stands past a separator is shorter
pub shorter : (mark : ℕ) (t : List ℕ) → has mark t ≡ true → length (past mark t) < length t
shorter mark [] h = absurd (let z : ◌≡◌ {A = ℕ} 0 1 = cc in omega arith)
shorter mark (b ∷ bs) h =
    (elim (eqb b mark) as (λ e. (e || has mark bs) ≡ true → length (cond e bs (past mark bs)) < length (b ∷ bs))
    [ true ↦ (λ _. omega arith) | false ↦ (λ k. let s = shorter mark bs k in omega arith) ]) h

-- the pieces of the text that is left, if one is
abbrev pub of : {X : Type 0} → (X → List ℕ) → ℕ → Option X → List (List ℕ)
of left mark rest = elim rest [ Some text ↦ pieces mark (left text) | None ↦ [] ]

-- the first piece is read, and what is left stands past the separator, if there was one
pub next_piece : {X : Type 0} (left : X → List ℕ) (mark : ℕ) (text : X) (next : Option X)
    → MatchOption next (has mark (left text) ≡ false) (λ _. has mark (left text) ≡ true) → IfSome next (λ rest. left rest ≡ past mark (left text))
    → pieces mark (left text) ≡ up_to mark (left text) ∷ of left mark next
next_piece left mark text None n r = cut mark (left text) ∙ ap (λ b. up_to mark (left text) ∷ cond b (pieces mark (past mark (left text))) []) n
next_piece left mark text (Some rest) f r =
    cut mark (left text)
    ∙ ap (λ b. up_to mark (left text) ∷ cond b (pieces mark (past mark (left text))) []) f
    ∙ ap (λ t. up_to mark (left text) ∷ pieces mark t) (sym r)

-- from where the next piece begins, the pieces ahead are left
module _ {X : Type 0} (left : X → List ℕ) (p now : Pieces X) where
  -- the piece that was given is walked past
  pub walked : (text : X) (next : Option X) → p.given ≡ true → p.at ≡ Some text → now ≡ record { at = next; given = p.given; mark = p.mark }
      → MatchOption next (has p.mark (left text) ≡ false) (λ _. has p.mark (left text) ≡ true) → IfSome next (λ rest. left rest ≡ past p.mark (left text))
      → ahead left p ≡ of left now.mark now.at
  walked text next given stands is found rest =
      ap (λ b. drop (cond b 1 0) (of left p.mark p.at)) given
      ∙ ap (λ o. drop 1 (of left p.mark o)) stands
      ∙ ap (drop 1) (next_piece left p.mark text next found rest)
      ∙ ap (λ (s : Pieces X). of left s.mark s.at) (sym is)

  -- none was given
  pub stayed : p.given ≡ false → now ≡ p → ahead left p ≡ of left now.mark now.at
  stayed given is = ap (λ b. drop (cond b 1 0) (of left p.mark p.at)) given ∙ ap (λ (s : Pieces X). of left s.mark s.at) (sym is)

-- the first piece comes off
pub first_off : {X : Type 0} (left : X → List ℕ) (mark : ℕ) (text : X) (o : Option X) → o ≡ Some text
    → of left mark o ≡ up_to mark (left text) ∷ drop 1 (of left mark o)
first_off left mark text o stands =
    let e = ap (of left mark) stands ∙ cut mark (left text) in
    e ∙ ap (λ ps. up_to mark (left text) ∷ drop 1 ps) (sym e)
