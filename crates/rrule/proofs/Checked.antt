-- What is read is within its bounds, and what passes the questions is a rule.
-- They stay: each goes by whether a part is there, which the check does not.
use Rattle.std.proofs.Common.{◌≡◌, ℕ, Bool, true, false, not, ◌&&◌, ◌||◌, leb, List, [], length, is_some, Some, None, codes, Option, sym, refl, ap, ◌∙◌, subst, arith}
use Rattle.std.specs.Option.{unwrap_or}
use Rattle.std.proofs.lemmas.Bool.{and_from, and_parts}
use Rattle.rules.specs.Parts.{each_of, code_ok, position_ok, number_ok, some_of, numbered, takes_numbers, takes_month_days, no_items, lists_fit, numbers_fit}
use Rattle.rules.specs.Parts.{fitting}
use Rattle.rules.specs.declared.parts.Frequency.{Frequency}
use Rattle.rules.specs.declared.parts.ByDay.{ByDay}
use Rattle.rules.specs.declared.parts.Position.{Position}
use Rattle.rule_values.specs.Numbers.{number_to}
use Rattle.rule_values.specs.Values.{months_read, month_days_read, weekdays_read}
use Rattle.rule_values.proofs.Bounded.{IfRead, Within, number_within, months_fit, month_days_fit, weekdays_fit}
use Rattle.rrule.specs.Named.{said, value_of}
use Rattle.rrule.specs.Rule.{parts_said, the_interval, the_months, the_month_days, the_weekdays, values_of}
use Rattle.rrule.specs.Questions.{month_days_allowed, numbers_allowed, by_frequency}
use Rattle.rrule.specs.declared.values.Values.{Values}

-- the numbers and the lists are within their bounds
abbrev bounded : Values → Bool
bounded v =
    lists_fit (the_months v) (the_month_days v) (the_weekdays v) && numbers_fit (the_interval v.interval) (the_months v) (the_month_days v) (the_weekdays v)

said_by : {A : Type 0} (P : A → Type 0) (read : List ℕ → Option A) → ((bs : List ℕ) → IfRead P (read bs)) → (o : Option (List ℕ)) → IfRead P (said read o)
said_by P read each None = tt
said_by P read each (Some v) = each v

unwrap_or_by : {A : Type 0} (P : A → Type 0) (d : A) (o : Option A) → P d → IfRead P o → P (unwrap_or o d)
unwrap_or_by P d None h k = h
unwrap_or_by P d (Some x) h k = k

interval_within : (o : Option ℕ) → IfRead (Within 999) o → (leb 1 (the_interval o) && leb (the_interval o) 999) ≡ true
interval_within None k = refl
interval_within (Some n) k = k

months_within : (o : Option (List ℕ)) → (leb (length (unwrap_or (said months_read o) [])) 16 ≡ true) × (each_of code_ok (unwrap_or (said months_read o) []) ≡ true)
months_within o =
    unwrap_or_by (λ m. (leb (length m) 16 ≡ true) × (each_of code_ok m ≡ true)) [] (said months_read o) (refl, refl) (said_by _ months_read months_fit o)

month_days_within : (o : Option (List ℕ)) → (leb (length (unwrap_or (said month_days_read o) [])) 62 ≡ true) × (each_of (position_ok 31) (unwrap_or (said month_days_read o) []) ≡ true)
month_days_within o =
    unwrap_or_by (λ d. (leb (length d) 62 ≡ true) × (each_of (position_ok 31) d ≡ true)) [] (said month_days_read o) (refl, refl) (said_by _ month_days_read month_days_fit o)

weekdays_within : (o : Option (List ℕ)) → (leb (length (unwrap_or (said weekdays_read o) [])) 16 ≡ true) × (each_of (λ b. number_ok b.position) (unwrap_or (said weekdays_read o) []) ≡ true)
weekdays_within o =
    unwrap_or_by (λ w. (leb (length w) 16 ≡ true) × (each_of (λ b. number_ok b.position) w ≡ true)) [] (said weekdays_read o) (refl, refl) (said_by _ weekdays_read weekdays_fit o)

pub values_bounded : (ps : List (List ℕ)) → bounded (values_of ps) ≡ true
values_bounded ps =
    let i = interval_within (said (number_to 999) (value_of (codes "INTERVAL") ps)) (said_by _ (number_to 999) (number_within 999) (value_of (codes "INTERVAL") ps)) in
    let m = months_within (value_of (codes "BYMONTH") ps) in
    let d = month_days_within (value_of (codes "BYMONTHDAY") ps) in
    let w = weekdays_within (value_of (codes "BYDAY") ps) in
    and_from _ _
    (and_from _ _ m.0 (and_from _ _ d.0 w.0))
    (and_from _ _ i (and_from _ _ m.1 (and_from _ _ d.1 w.1)))

allowed : (none takes plain numbers : Bool) → takes ≡ true → (plain || (numbers && false)) ≡ true → ((none || takes) && (plain || (numbers && none))) ≡ true
allowed none takes plain numbers h k = grind arith

-- no BYMONTHDAY has no values
parts_fit_by : (f : Frequency) (o : Option (List Position)) (w : List ByDay) → (not (is_some o) || takes_month_days f) ≡ true → (not (some_of (λ b. numbered b.position) w) || (takes_numbers f && not (is_some o))) ≡ true → ((no_items (unwrap_or o []) || takes_month_days f) && (not (some_of (λ b. numbered b.position) w) || (takes_numbers f && no_items (unwrap_or o [])))) ≡ true
parts_fit_by f None w h k = and_from _ _ refl k
parts_fit_by f (Some d) w h k =
    allowed (no_items d) (takes_month_days f) (not (some_of (λ b. numbered b.position) w)) (takes_numbers f) h k

pub well_formed_by : (f : Frequency) (v : Values) (ps : List (List ℕ)) → v ≡ values_of ps → v.frequency ≡ Some f → true ≡ month_days_allowed v → true ≡ numbers_allowed v → fitting (parts_said f v) ≡ true
well_formed_by f v ps is e h k =
    let p = and_parts (lists_fit (the_months v) (the_month_days v) (the_weekdays v)) _ (ap bounded is ∙ values_bounded ps) in
    and_from _ _ p.0 (and_from _ _ p.1
    (parts_fit_by f v.month_days (the_weekdays v)
    (subst (λ o. (not (is_some v.month_days) || by_frequency takes_month_days o) ≡ true) e (sym h))
    (subst (λ o. (not (some_of (λ b. numbered b.position) (the_weekdays v)) || (by_frequency takes_numbers o && not (is_some v.month_days))) ≡ true) e (sym k))))
