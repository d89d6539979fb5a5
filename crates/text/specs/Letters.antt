-- Texts that are the same but for the case of their ASCII letters.
use Rattle.std.specs.Prelude.{ℕ, Bool, true, false, ◌&&◌, List, [], ◌∷◌, ◌==◌}
use Rattle.std.specs.Char.{to_ascii_uppercase}

-- the same letter
unfoldable pub alike : ℕ → ℕ → Bool
alike a b = to_ascii_uppercase a == to_ascii_uppercase b

abbrev pub same : List ℕ → List ℕ → Bool
same [] [] = true
same [] (b ∷ bs) = false
same (a ∷ as') [] = false
same (a ∷ as') (b ∷ bs) = alike a b && same as' bs
