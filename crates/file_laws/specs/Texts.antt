-- Texts: when two are the same but for the case of letters, and the pieces of one between separators.
use Rattle.std.specs.Prelude.{◌≡◌, ℕ, true, false, ◌≢◌, List, [], ◌∷◌, ◌++◌, map}
use Rattle.std.specs.Char.{to_ascii_uppercase}
use Rattle.std.specs.List.{AllByRecursion}
use Rattle.text.specs.Letters.{same}
use Rattle.text.specs.Pieces.{up_to, past, has, pieces}

-- texts are the same exactly where they are equal in capital letters
pub record SameText : Type 0 where
  pub only : (xs ys : List ℕ) → same xs ys ≡ true → map to_ascii_uppercase xs ≡ map to_ascii_uppercase ys
  pub stands : (xs ys : List ℕ) → map to_ascii_uppercase xs ≡ map to_ascii_uppercase ys → same xs ys ≡ true

-- a piece has no separator
abbrev pub Piece : ℕ → List ℕ → Type 0
Piece mark p = AllByRecursion (λ b. b ≢ mark) p

-- a piece and more of them, with a separator between each two
abbrev pub separated : ℕ → List ℕ → List (List ℕ) → List ℕ
separated mark p [] = p
separated mark p (q ∷ ps) = p ++ (mark ∷ separated mark q ps)

-- every text is such pieces, and they are those that are read of it; the first is what stands up to the first separator, and the others what stands past it
pub record PiecesOfAText : Type 0 where
  pub only : (mark : ℕ) (bs : List ℕ) → (p : List ℕ) × (ps : List (List ℕ)) × Piece mark p × AllByRecursion (Piece mark) ps × (bs ≡ separated mark p ps)
  pub stands : (mark : ℕ) (p : List ℕ) (ps : List (List ℕ)) → Piece mark p → AllByRecursion (Piece mark) ps → pieces mark (separated mark p ps) ≡ p ∷ ps
  pub first : (mark : ℕ) (p : List ℕ) (ps : List (List ℕ)) → Piece mark p → up_to mark (separated mark p ps) ≡ p
  pub alone : (mark : ℕ) (p : List ℕ) → Piece mark p → (has mark p ≡ false) × (past mark p ≡ [])
  pub others : (mark : ℕ) (p bs : List ℕ) → Piece mark p → (has mark (p ++ (mark ∷ bs)) ≡ true) × (past mark (p ++ (mark ∷ bs)) ≡ bs)
