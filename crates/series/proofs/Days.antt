-- The days of a series by its parts.
use Rattle.std.proofs.Common.{◌≡◌, ℕ, Bool, List, Option, sym, subst}
use Rattle.calendar.specs.Sheets.{Almanac}
use Rattle.sources.specs.Sets.{Found}
use Rattle.sources.specs.Events.{event_days}
use Rattle.sources.specs.declared.events.Limit.{Limit}
use Rattle.rules.specs.declared.checked.Rule.{Rule}
use Rattle.rules.specs.Meaning.{gives}
use Rattle.rules.specs.Making.{parts_give}
use Rattle.rules.proofs.PartsSay.{same_set}
use Rattle.series.specs.declared.record.Series.{Series}
use Rattle.series.specs.Record.{Ruled, rule_days, limit_of, ruled_in, series_days}

pub found_of : (shelf : List Almanac) (s : Series) (from : ℕ) (r : Option ℕ) (u : Option Ruled) (rs xs : List ℕ)
    → ruled_in s.recurrence ≡ u → rs ≡ s.rdates → xs ≡ s.exdates
    → Found (event_days (rule_days shelf u s.start) (limit_of u) rs xs) from r → Found (series_days shelf s) from r
found_of shelf s from r u rs xs e f h found =
    subst (λ (v : Option Ruled). Found (event_days (rule_days shelf v s.start) (limit_of v) s.rdates s.exdates) from r) (sym e)
    (subst (λ (ys : List ℕ). Found (event_days (rule_days shelf u s.start) (limit_of u) ys s.exdates) from r) f
    (subst (λ (ys : List ℕ). Found (event_days (rule_days shelf u s.start) (limit_of u) rs ys) from r) h found))

-- the days of a rule are those of its parts
pub by_parts : (a : Almanac) (r : Rule) (start : ℕ) (l : Limit) (rs xs : List ℕ) (from : ℕ) (o : Option ℕ)
    → Found (event_days (gives a r start) l rs xs) from o → Found (event_days (parts_give a r.parts start) l rs xs) from o
by_parts a r start l rs xs from o found =
    subst (λ (set : ℕ → Bool). Found (event_days set l rs xs) from o) (same_set a r start) found
