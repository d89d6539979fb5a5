-- The pieces of a text between separators.
use Rattle.std.specs.Prelude.{ℕ, Bool, false, cond, ◌||◌, List, [], ◌∷◌, drop, Some, None, Option, ◌==◌}
use Rattle.text.specs.declared.pieces.Pieces.{Pieces}

-- what a byte stands before; with no byte, nothing is left
abbrev pub before : Option ℕ → List ℕ → List ℕ
before (Some b) bs = b ∷ bs
before None bs = []

-- the bytes before the first that a test holds of
abbrev pub until : (ℕ → Bool) → List ℕ → List ℕ
until test [] = []
until test (b ∷ bs) = cond (test b) [] (b ∷ until test bs)

-- the bytes up to the first separator, and those past it
abbrev pub up_to : ℕ → List ℕ → List ℕ
up_to mark bs = until (λ b. b == mark) bs

abbrev pub past : ℕ → List ℕ → List ℕ
past mark [] = []
past mark (b ∷ bs) = cond (b == mark) bs (past mark bs)

abbrev pub has : ℕ → List ℕ → Bool
has mark [] = false
has mark (b ∷ bs) = b == mark || has mark bs

-- a byte more in front of the first piece
abbrev pub onto_first : ℕ → List (List ℕ) → List (List ℕ)
onto_first b [] = (b ∷ []) ∷ []
onto_first b (p ∷ ps) = (b ∷ p) ∷ ps

-- all pieces, one more than there are separators
abbrev pub pieces : ℕ → List ℕ → List (List ℕ)
pieces mark [] = [] ∷ []
pieces mark (b ∷ bs) = cond (b == mark) ([] ∷ pieces mark bs) (onto_first b (pieces mark bs))

-- what Pieces have yet to give: the pieces of the text that they stand in, less the first once it was given
abbrev pub ahead : {B : Type 0} → (B → List ℕ) → Pieces B → List (List ℕ)
ahead left p = drop (cond p.given 1 0) (elim p.at [ Some text ↦ pieces p.mark (left text) | None ↦ [] ])
