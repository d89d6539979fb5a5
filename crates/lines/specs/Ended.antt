-- A file of lines that all end in CR LF, with no other CR or LF.
use Rattle.std.specs.Prelude.{ℕ, Bool, true, false, cond, not, ◌&&◌, ◌||◌, List, [], ◌∷◌, ◌==◌}
use Rattle.lines.specs.Lines.{crlf}

-- from a line's start, or from inside a line
abbrev pub proper : Bool → List ℕ → Bool
proper start [] = start
proper start (a ∷ []) = false
proper start (a ∷ b ∷ bs) = cond (crlf a b) (proper true bs) (not (a == 13 || a == 10) && proper false (b ∷ bs))

abbrev pub well_ended : List ℕ → Bool
well_ended [] = false
well_ended (b ∷ bs) = proper true (b ∷ bs)
