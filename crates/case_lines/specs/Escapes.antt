-- How a case's file stands on a line: a backslash and the letter r, the letter n or a backslash stand for CR, LF and a
-- backslash, and each other byte for itself.
use Rattle.std.specs.Prelude.{◌≡◌, ℕ, ◌<◌, cond, List, [], ◌∷◌, length, Some, None, Option, ◌⊎◌, ◌==◌}
use Rattle.std.specs.Borrow.{Bor}

-- what a backslash and a byte stand for
abbrev pub escaped : ℕ → Option ℕ
escaped b = cond (b == 114) (Some 13) (cond (b == 110) (Some 10) (cond (b == 92) (Some 92) None))

abbrev pub onto : Option ℕ → Option (List ℕ) → Option (List ℕ)
onto (Some b) (Some bs) = Some (b ∷ bs)
onto (Some b) None = None
onto None rest = None

-- the bytes that a text stands for, if each of its backslashes stands for one
abbrev pub plain : List ℕ → Option (List ℕ)
plain [] = Some []
plain (b ∷ []) = cond (b == 92) None (Some (b ∷ []))
plain (b ∷ c ∷ bs) = cond (b == 92) (onto (escaped c) (plain bs)) (onto (Some b) (plain (c ∷ bs)))

-- the first byte that a text stands for and the text after it, or none where it stands for none
abbrev pub First : List ℕ → Option (ℕ × Bor (List ℕ)) → Type 0
First text (Some t) = (plain text ≡ onto (Some t.0) (plain t.1.now)) × (length t.1.now < length text)
First text None = (text ≡ []) ⊎ (plain text ≡ None)
