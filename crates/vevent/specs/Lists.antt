-- Lists of dates between commas.
use Rattle.std.specs.Prelude.{ℕ, ◌-◌, Bool, cond, List, [], ◌∷◌, ◌++◌, is_some, Some, None, Option, nat_le}
use Rattle.std.specs.List.{list_all}
use Rattle.days.specs.Numbers.{in_range}
use Rattle.text.specs.Dates.{day_in}

-- a day, if it is in the range
abbrev pub if_ranged : Option ℕ → Option ℕ
if_ranged None = None
if_ranged (Some n) = cond (in_range n) (Some n) None

-- the day in the range that a text names
abbrev pub day_ranged : List ℕ → Option ℕ
day_ranged t = if_ranged (day_in t)

abbrev pub all_days : List (List ℕ) → Bool
all_days ts = list_all (λ t. is_some (day_ranged t)) ts

abbrev pub one_or_none : Option ℕ → List ℕ
one_or_none None = []
one_or_none (Some n) = n ∷ []

-- the days in the range that texts name
abbrev pub days_among : List (List ℕ) → List ℕ
days_among [] = []
days_among (t ∷ ts) = one_or_none (day_ranged t) ++ days_among ts

-- what is left of a room after n dates, or none if they are too many
abbrev pub room_after : ℕ → ℕ → Option ℕ
room_after room n = cond (nat_le n room) (Some (room - n)) None
