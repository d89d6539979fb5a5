-- The words of a line: the bytes between blanks. And words that an iterator gives.
use Rattle.std.specs.Prelude.{ℕ, Bool, true, cond, ◌||◌, List, [], ◌∷◌, ◌==◌, Option}
use Rattle.std.specs.Borrow.{Bor}
use Rattle.std.proofs.lemmas.Iterator.{YieldsList}

-- a space or a tab
abbrev pub blank : ℕ → Bool
blank b = b == 32 || b == 9

-- no word goes on here: a blank comes, or the end
abbrev pub at_break : List ℕ → Bool
at_break [] = true
at_break (b ∷ bs) = blank b

-- a byte more at the front of the first word
abbrev pub onto_first : ℕ → List (List ℕ) → List (List ℕ)
onto_first b [] = (b ∷ []) ∷ []
onto_first b (w ∷ ws) = (b ∷ w) ∷ ws

abbrev pub words : List ℕ → List (List ℕ)
words [] = []
words (b ∷ bs) = cond (blank b) (words bs) (cond (at_break bs) ((b ∷ []) ∷ words bs) (onto_first b (words bs)))

-- the iterator gives these words, and then none
abbrev pub Gives : {S : Type 0} → (S → Option (Bor (List ℕ)) → S → Type 0) → S → List (List ℕ) → Type 0
Gives steps s ws = YieldsList steps (λ w. w.now) s ws
