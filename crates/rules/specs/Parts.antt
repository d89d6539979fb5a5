-- The parts of a rule, and when they fit together.
use Rattle.std.specs.Prelude.{ℕ, Bool, true, false, not, ◌&&◌, ◌||◌, List, [], ◌∷◌, length, Some, None, Option, nat_le}
use Rattle.std.specs.List.{list_any, list_all}
use Rattle.calendar.specs.declared.sheet.MonthCode.{MonthCode}
use Rattle.rules.specs.declared.parts.Frequency.{Frequency}
use Rattle.rules.specs.declared.parts.Frequency.TheVariants.{Yearly, Monthly, Weekly, Daily}
use Rattle.rules.specs.declared.parts.Position.{Position}
use Rattle.rules.specs.declared.parts.Position.TheVariants.{FromStart, FromEnd}
use Rattle.rules.specs.declared.parts.ByDay.{ByDay}
use Rattle.rules.specs.declared.parts.Parts.{Parts}

-- some element passes, and every one
abbrev pub some_of : {X : Type 0} → (X → Bool) → List X → Bool
some_of f xs = list_any f xs

abbrev pub each_of : {X : Type 0} → (X → Bool) → List X → Bool
each_of f xs = list_all f xs

abbrev pub no_items : {X : Type 0} → List X → Bool
no_items [] = true
no_items (x ∷ xs) = false

-- a position that is not 0 and at most `most`
abbrev pub position_ok : ℕ → Position → Bool
position_ok most (FromStart v) = nat_le 1 v && nat_le v most
position_ok most (FromEnd v) = nat_le 1 v && nat_le v most

abbrev pub code_ok : MonthCode → Bool
code_ok c = nat_le 1 c.number && nat_le c.number 13

abbrev pub numbered : Option Position → Bool
numbered None = false
numbered (Some v) = true

abbrev pub number_ok : Option Position → Bool
number_ok None = true
number_ok (Some v) = position_ok 53 v

-- a numbered weekday stands only in months and years
abbrev pub takes_numbers : Frequency → Bool
takes_numbers Yearly = true
takes_numbers Monthly = true
takes_numbers Weekly = false
takes_numbers Daily = false

abbrev pub takes_month_days : Frequency → Bool
takes_month_days Yearly = true
takes_month_days Monthly = true
takes_month_days Weekly = false
takes_month_days Daily = true

-- the lists of BYMONTH, BYMONTHDAY and BYDAY, empty where the part is absent, are no longer than they may be
abbrev pub lists_fit : List MonthCode → List Position → List ByDay → Bool
lists_fit m d w = nat_le (length m) 16 && (nat_le (length d) 62 && nat_le (length w) 16)

abbrev pub numbers_fit : ℕ → List MonthCode → List Position → List ByDay → Bool
numbers_fit interval m d w =
    (nat_le 1 interval && nat_le interval 999)
    && (each_of code_ok m && (each_of (position_ok 31) d && each_of (λ b. number_ok b.position) w))

-- BYMONTHDAY does not stand in weeks, and a numbered weekday stands in months and years only, without BYMONTHDAY
abbrev pub parts_fit : Frequency → List Position → List ByDay → Bool
parts_fit f d w =
    (no_items d || takes_month_days f)
    && (not (some_of (λ b. numbered b.position) w) || (takes_numbers f && no_items d))

abbrev pub well_formed : Frequency → ℕ → List MonthCode → List Position → List ByDay → Bool
well_formed f interval m d w = lists_fit m d w && (numbers_fit interval m d w && parts_fit f d w)

-- the parts fit together
abbrev pub fitting : Parts → Bool
fitting p = well_formed p.frequency p.interval p.months p.month_days p.weekdays
