-- The parts of a rule, between semicolons: each a name and a value around its first `=`. Letter case is ignored.
use Rattle.std.specs.Prelude.{ℕ, Bool, true, cond, not, ◌&&◌, List, [], ◌∷◌, is_some, Some, None, codes, Option}
use Rattle.rules.specs.Parts.{some_of, each_of}
use Rattle.rule_values.specs.Words.{word_read}
use Rattle.rrule.specs.declared.part_name.PartName.{PartName}
use Rattle.rrule.specs.declared.part_name.PartName.TheVariants.{Frequency, Interval, Count, Until, WeekStart, Scale, Skip, Months, MonthDays, Weekdays}
use Rattle.text.specs.Letters.{same}
use Rattle.text.specs.Pieces.{up_to, past, has, pieces}

abbrev pub parts : List ℕ → List (List ℕ)
parts bs = pieces 59 bs

-- a part's name and its value
abbrev pub name : List ℕ → List ℕ
name part = up_to 61 part

abbrev pub value : List ℕ → List ℕ
value part = past 61 part

-- how the name of a part is written
abbrev pub part_word : PartName → List ℕ
part_word Frequency = codes "FREQ"
part_word Interval = codes "INTERVAL"
part_word Count = codes "COUNT"
part_word Until = codes "UNTIL"
part_word WeekStart = codes "WKST"
part_word Scale = codes "RSCALE"
part_word Skip = codes "SKIP"
part_word Months = codes "BYMONTH"
part_word MonthDays = codes "BYMONTHDAY"
part_word Weekdays = codes "BYDAY"

abbrev pub part_names : List PartName
part_names = Frequency ∷ Interval ∷ Count ∷ Until ∷ WeekStart ∷ Scale ∷ Skip ∷ Months ∷ MonthDays ∷ Weekdays ∷ []

abbrev pub is_known : List ℕ → Bool
is_known n = is_some (word_read part_word part_names n)

abbrev pub well_named : List ℕ → Bool
well_named part = has 61 part && is_known (name part)

-- a part of this name is among them
abbrev pub some_named : List ℕ → List (List ℕ) → Bool
some_named n ps = some_of (λ part. same n (name part)) ps

abbrev pub none_twice : List (List ℕ) → Bool
none_twice [] = true
none_twice (p ∷ ps) = not (some_named (name p) ps) && none_twice ps

-- parts with known names, none twice
abbrev pub well_parted : List (List ℕ) → Bool
well_parted ps = each_of well_named ps && none_twice ps

-- the value of the part of this name
abbrev pub value_of : List ℕ → List (List ℕ) → Option (List ℕ)
value_of n [] = None
value_of n (p ∷ ps) = cond (same n (name p)) (Some (value p)) (value_of n ps)

-- what a value says, and whether it has its form: a part that is not there says nothing
abbrev pub said : {A : Type 0} → (List ℕ → Option A) → Option (List ℕ) → Option A
said read None = None
said read (Some v) = read v

abbrev pub in_form : {A : Type 0} → (List ℕ → Option A) → Option (List ℕ) → Bool
in_form read None = true
in_form read (Some v) = is_some (read v)
