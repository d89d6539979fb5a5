-- Texts that are made of lines, one for each member of a list.
use Rattle.std.specs.Prelude.{◌≡◌, ℕ, ◌+◌, List, [], ◌∷◌, ◌++◌}

-- the text is what is said of each member, one after another
abbrev pub Lines : {X : Type 0} → (X → List ℕ → Type 0) → List X → List ℕ → Type 0
Lines Says [] text = text ≡ []
Lines Says (x ∷ xs) text = (first : List ℕ) × (rest : List ℕ) × Says x first × Lines Says xs rest × (text ≡ first ++ rest)

-- each member with its number, from n on
abbrev pub numbered : {X : Type 0} → ℕ → List X → List (ℕ × X)
numbered n [] = []
numbered n (x ∷ xs) = (n, x) ∷ numbered (n + 1) xs
