-- Lists between commas, and lists of at most so many elements.
use Rattle.std.specs.Prelude.{ℕ, cond, List, [], ◌∷◌, length, Some, None, Option, nat_le}
use Rattle.text.specs.Pieces.{pieces}

abbrev pub in_front : {A : Type 0} → Option A → Option (List A) → Option (List A)
in_front None xs = None
in_front (Some x) None = None
in_front (Some x) (Some xs) = Some (x ∷ xs)

-- every element read, if each has its form
abbrev pub all_read : {X A : Type 0} → (X → Option A) → List X → Option (List A)
all_read read [] = Some []
all_read read (x ∷ xs) = in_front (read x) (all_read read xs)

-- a comma list of at most so many items
abbrev pub list_read : {A : Type 0} → ℕ → (List ℕ → Option A) → List ℕ → Option (List A)
list_read most read bs = cond (nat_le (length (pieces 44 bs)) most) (all_read read (pieces 44 bs)) None

-- a list of at most n elements
abbrev pub at_most : {A : Type 0} → ℕ → List A → Option (List A)
at_most n xs = cond (nat_le (length xs) n) (Some xs) None
