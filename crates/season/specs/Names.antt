-- The names of files by their numbers.
use Rattle.std.specs.Prelude.{ℕ, zero, suc, List, codes, Some, None, Option, slice_get}
use Rattle.std.specs.Borrow.{Bor}

-- a name, or a question mark where there is none
abbrev pub shown : Option (Bor (List ℕ)) → List ℕ
shown (Some name) = name.now
shown None = codes "?"

-- the name of this number, from 1
abbrev pub name_of : List (Bor (List ℕ)) → ℕ → List ℕ
name_of names zero = shown None
name_of names (suc place) = shown (slice_get names place)
