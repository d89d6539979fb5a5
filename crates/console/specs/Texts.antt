-- How dates are written in an answer.
use Rattle.std.specs.Prelude.{ℕ, List, [], ◌∷◌, ◌++◌, Some, None, codes, Option}
use Rattle.calendar.specs.declared.dates.NamedDate.{NamedDate}
use Rattle.calendar.specs.Printing.{padded, named_text}

-- year, month code and day, or none
abbrev pub date_text : Option NamedDate → List ℕ
date_text (Some t) = named_text t
date_text None = codes "none"

-- the eight digits of a Gregorian date, or none
abbrev pub digits_text : Option (ℕ × ℕ × ℕ) → List ℕ
digits_text (Some t) = padded 4 t.0 ++ (padded 2 t.1 ++ padded 2 t.2)
digits_text None = codes "none"

-- what is said of the members of two lists side by side, one pair after another
abbrev pub each_said : {T U : Type 0} → (T → U → List ℕ) → List T → List U → List ℕ
each_said f [] ys = []
each_said f (x ∷ xs) [] = []
each_said f (x ∷ xs) (y ∷ ys) = f x y ++ each_said f xs ys
