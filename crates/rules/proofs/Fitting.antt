-- What a rule's parts are, by the test that every rule has passed.
use Rattle.std.proofs.Common.{◌≡◌, ℕ, ◌≤◌, true, ◌&&◌, leb}
use Rattle.std.specs.List.{AllByRecursion}
use Rattle.std.proofs.lemmas.Bool.{and_parts, leb-true}
use Rattle.rules.specs.declared.checked.Rule.{Rule}
use Rattle.rules.specs.declared.parts.Position.{Position}
use Rattle.rules.specs.declared.parts.Position.TheVariants.{FromStart, FromEnd}
use Rattle.rules.specs.Parts.{lists_fit, numbers_fit, parts_fit, each_of, code_ok, position_ok, number_ok}
use Rattle.rules.specs.Meaning.{by_month, by_month_day, by_day}
use Rattle.rules.proofs.Searching.{each_all}

-- the number of a position, whichever end it counts from
abbrev pub number_of : Position → ℕ
number_of (FromStart v) = v
number_of (FromEnd v) = v

pub position_fits : (most : ℕ) (v : Position) → position_ok most v ≡ true → (1 ≤ number_of v) × (number_of v ≤ most)
position_fits most (FromStart v) e = let p = and_parts (leb 1 v) (leb v most) e in (leb-true 1 v p.0, leb-true v most p.1)
position_fits most (FromEnd v) e = let p = and_parts (leb 1 v) (leb v most) e in (leb-true 1 v p.0, leb-true v most p.1)

module _ (r : Rule) where
  rest_ok : (numbers_fit r.parts.interval r.parts.months r.parts.month_days r.parts.weekdays && parts_fit r.parts.frequency r.parts.month_days r.parts.weekdays) ≡ true
  rest_ok = (and_parts (lists_fit r.parts.months r.parts.month_days r.parts.weekdays) _ r.checked).1

  numbers_ok : numbers_fit r.parts.interval r.parts.months r.parts.month_days r.parts.weekdays ≡ true
  numbers_ok = (and_parts (numbers_fit r.parts.interval r.parts.months r.parts.month_days r.parts.weekdays) _ rest_ok).0

  interval_ok : (leb 1 r.parts.interval ≡ true) × (leb r.parts.interval 999 ≡ true)
  interval_ok = and_parts (leb 1 r.parts.interval) (leb r.parts.interval 999) (and_parts (leb 1 r.parts.interval && leb r.parts.interval 999) _ numbers_ok).0

  pub interval_some : 1 ≤ r.parts.interval
  interval_some = leb-true 1 r.parts.interval interval_ok.0

  elements_ok : (each_of code_ok (by_month r) && (each_of (position_ok 31) (by_month_day r) && each_of (λ b. number_ok b.position) (by_day r))) ≡ true
  elements_ok = (and_parts (leb 1 r.parts.interval && leb r.parts.interval 999) _ numbers_ok).1

  -- no value of BYMONTHDAY is 0, and none is above 31
  pub values_some : AllByRecursion (λ v. (1 ≤ number_of v) × (number_of v ≤ 31)) (by_month_day r)
  values_some =
      each_all (λ v. (1 ≤ number_of v) × (number_of v ≤ 31)) (position_ok 31) (position_fits 31) (by_month_day r)
      (and_parts (each_of (position_ok 31) (by_month_day r)) _ (and_parts (each_of code_ok (by_month r)) _ elements_ok).1).0
