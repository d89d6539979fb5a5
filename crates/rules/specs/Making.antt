-- The rule that is made of parts, and the days that parts give over an almanac: those of the rule that says them, and
-- none where they do not fit together.
use Rattle.std.specs.Prelude.{◌≡◌, ℕ, Bool, true, false, Some, None, Option, refl}
use Rattle.calendar.specs.Sheets.{Almanac}
use Rattle.rules.specs.declared.checked.Rule.{Rule}
use Rattle.rules.specs.declared.parts.Parts.{Parts}
use Rattle.rules.specs.Parts.{fitting}
use Rattle.rules.specs.Meaning.{gives}

-- the rule that says just these parts, or none where they do not fit together
abbrev pub Made : Parts → Option Rule → Type 0
Made p (Some r) = (fitting p ≡ true) × (r.parts ≡ p)
Made p None = fitting p ≡ false

abbrev pub given_where : Almanac → (p : Parts) (b : Bool) → fitting p ≡ b → ℕ → ℕ → Bool
given_where a p true fits start n = gives a (record { parts = p; checked = fits }) start n
given_where a p false fits start n = false

-- the parts give the day n, if DTSTART is the day `start`
abbrev pub parts_give : Almanac → Parts → ℕ → ℕ → Bool
parts_give a p = given_where a p (fitting p) refl

-- the parts of a checked rule give what the rule gives, and parts that do not fit together give no day
pub record PartsSay : Type 0 where
  pub checked : (a : Almanac) (r : Rule) (start n : ℕ) → parts_give a r.parts start n ≡ gives a r start n
  pub unfit : (a : Almanac) (p : Parts) (start n : ℕ) → fitting p ≡ false → parts_give a p start n ≡ false
