-- The parts of a line: its name, its parameters and its value.
use Rattle.std.specs.Prelude.{ℕ, Bool, false, cond, not, ◌&&◌, ◌||◌, List, [], ◌∷◌, Some, None, codes, ◌==◌}
use Rattle.std.specs.List.{find}
use Rattle.std.specs.Int.{is_in_range}
use Rattle.text.specs.Letters.{same}
use Rattle.text.specs.Pieces.{until}

-- letters, digits and hyphens
abbrev pub name_byte : ℕ → Bool
name_byte b = is_in_range 65 90 b || (is_in_range 97 122 b || (is_in_range 48 57 b || b == 45))

-- the name that the bytes begin with
abbrev pub name : List ℕ → List ℕ
name bs = until (λ b. not (name_byte b)) bs

-- whether the byte after b stands inside quotes, where b does or does not
abbrev pub quoted_after : Bool → ℕ → Bool
quoted_after q b = cond (b == 34) (not q) q

-- what stands after the first `mark` outside quotes; with q, from inside quotes
abbrev pub after : Bool → ℕ → List ℕ → List ℕ
after q mark [] = []
after q mark (b ∷ bs) = cond (b == 34) (after (not q) mark bs) (cond (b == mark && not q) bs (after q mark bs))

abbrev pub value : List ℕ → List ℕ
value bs = after false 58 bs

-- whether the name is n, letter case ignored
abbrev pub is_named : List ℕ → List ℕ → Bool
is_named n bs = same n (name bs)

-- a parameter's bytes, to the semicolon or colon outside quotes that ends it
abbrev pub piece : Bool → List ℕ → List ℕ
piece q [] = []
piece q (b ∷ bs) = cond (b == 34) (b ∷ piece (not q) bs) (cond ((b == 58 || b == 59) && not q) [] (b ∷ piece q bs))

-- the parameters of a line, each begun by a semicolon outside quotes, up to the colon; with q, from inside quotes
abbrev pub parameters : Bool → List ℕ → List (List ℕ)
parameters q [] = []
parameters q (b ∷ bs) =
    cond (b == 34) (parameters (not q) bs)
    (cond (b == 58 && not q) []
    (cond (b == 59 && not q) (piece false bs ∷ parameters q bs) (parameters q bs)))

-- whether the first parameter named VALUE is w, letter case ignored
abbrev pub value_is : List ℕ → List (List ℕ) → Bool
value_is w ps = elim (find (is_named (codes "VALUE")) ps) [ Some p ↦ same w p | None ↦ false ]

abbrev pub date_valued : List ℕ → Bool
date_valued bs = value_is (codes "VALUE=DATE") (parameters false bs)
