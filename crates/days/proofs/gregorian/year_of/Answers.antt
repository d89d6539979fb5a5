-- The check does not find that the first year not over by a day has begun, nor that no other year has the day.
use Rattle.std.proofs.Common.{◌≡◌, ℕ, ◌+◌, ◌-◌, ◌/◌, ◌<◌, ◌≤◌, true, Some, None, Option, is_some, IfSome, refl, ⊎_elim, arith, rules}
use Rattle.std.specs.Option.{MatchOption}
use Rattle.std.proofs.lemmas.Bool.{cases_lt}
use Rattle.std.proofs.lemmas.Iterator.{first_from_Range}
use Rattle.days.specs.Gregorian.{new_year, InYear}
use Rattle.days.proofs.gregorian.year_of.Goals as goal

module _ (n : ℕ) (from : 1 ≤ n) where
  abbrev early : ℕ
  early = n / 366 + 1

  -- the first year from the early one on that is not over by the day n
  abbrev First : Option ℕ → Type 0
  First r =
      MatchOption r ((k : ℕ) → early ≤ k → k < 10000 → new_year (k + 1) ≤ n)
      (λ y. (early ≤ y) × (y < 10000) × (n < new_year (y + 1)) × ((k : ℕ) → early ≤ k → k < y → new_year (k + 1) ≤ n))

  begun : (y : ℕ) → First (Some y) → new_year y ≤ n
  begun y h =
      ⊎_elim
      (λ (l : early < y).
      let before = h.3 (y - 1) (omega arith) (omega arith) in
      let e : y - 1 + 1 ≡ y = omega arith in
      rw e at before)
      (λ (l : y ≤ early). omega arith)
      (cases_lt early y)

  in_year : (r : Option ℕ) → First r → IfSome r (InYear n)
  in_year None h = tt
  in_year (Some y) h =
      let e = h.0 in
      record { year_from = omega arith; year_to = omega (arith, h.1); begun = begun y h; not_over = h.2 }

  only : (r : Option ℕ) → First r → (y : ℕ) → InYear n y → is_some r ≡ true
  only (Some x) h y i = refl
  only None h y i =
      let b = i.begun in
      let o = i.not_over in
      let t = i.year_to in
      let k = h y (omega arith) (omega arith) in
      absurd (omega arith)

first : (c : goal.After-find) → First c.args.day c.requires c.find.result
first c = first_from_Range _ _ _ _ _ _ c.find.ensures.ran (λ x q k. search rules) (λ x q k. search rules)

pub returns-clause-some : goal.returns-clause-some
returns-clause-some c = in_year c.args.day c.requires c.find.result (first c)

pub returns-clause-only : goal.returns-clause-only
returns-clause-only c = only c.args.day c.requires c.find.result (first c)
