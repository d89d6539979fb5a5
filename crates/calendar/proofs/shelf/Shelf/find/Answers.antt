use Rattle.std.proofs.Common.{◌≡◌, ℕ, ◌<◌, ◌≤◌, List, length, map, Some, None, Option, arith, rules}
use Rattle.std.specs.Char.{to_ascii_lowercase}
use Rattle.std.specs.Option.{MatchOption}
use Rattle.std.proofs.lemmas.Iterator.{first_from_Range}
use Rattle.calendar.specs.Sheets.{Almanac}
use Rattle.calendar.specs.Shelves.{almanac_at, Found}
use Rattle.calendar.proofs.shelf.Shelf.find.Goals as goal

module _ (held : List Almanac) (name : List ℕ) where
  abbrev SameName : ℕ → Type 0
  SameName i = map to_ascii_lowercase (almanac_at held i).name ≡ map to_ascii_lowercase name

  -- the first place of the range with that name is the first of the shelf
  found : (count : ℕ) (r : Option ℕ) → count ≡ length held →
      MatchOption r ((k : ℕ) → 0 ≤ k → k < count → SameName k → ⊥) (λ i. (0 ≤ i) × (i < count) × SameName i × ((k : ℕ) → 0 ≤ k → k < i → SameName k → ⊥)) →
      Found held name r
  found count None e none = λ k b. let w = b.within in none k (omega arith) (omega arith) b.same
  found count (Some i) e first =
      let w = first.1 in
      record { bears = record { within = omega arith; same = first.2 }; earlier = λ k less b. first.3 k (omega arith) less b.same }

pub returns : goal.returns
returns g c =
    found (g.Self.Shelf.held c.args.self.now) c.args.name.now c.count.result c.find.result c.count.ensures
    (first_from_Range _ _ _ _ _ _ c.find.ensures.ran (λ x q k. search rules) (λ x q k. search rules))
