-- Components that nest, each END that of the innermost BEGIN.
use Rattle.std.specs.Prelude.{ℕ, zero, suc, Bool, true, false, cond, ◌&&◌, List, [], ◌∷◌, Some, None, codes, Option}
use Rattle.lines.specs.Lines.{Line}
use Rattle.lines.specs.Property.{is_named, value}
use Rattle.lines.specs.View.{text}
use Rattle.text.specs.Letters.{same}
use Rattle.components.specs.declared.kind.Kind as read
use Rattle.components.specs.declared.kind.Kind.TheVariants as is
use Rattle.components.specs.declared.delimiter.Delimiter as delimiter
use Rattle.components.specs.declared.delimiter.Delimiter.TheVariants as at

-- what a line is: a BEGIN or END with its value, or any other property
pub data Kind : Type 0 where
  Begin : List ℕ → Kind
  End : List ℕ → Kind
  Other : Kind

abbrev pub kind : List ℕ → Kind
kind bs = cond (is_named (codes "BEGIN") bs) (Begin (value bs)) (cond (is_named (codes "END") bs) (End (value bs)) Other)

-- the kind that a reader answers
abbrev pub kind_read : read.Kind → Kind
kind_read (is.Begin v) = Begin (text v)
kind_read (is.End v) = End (text v)
kind_read is.Other = Other

-- the kind of a line of which a reader answers whether it is a BEGIN, an END or neither
abbrev pub kind_delimited : List ℕ → delimiter.Delimiter → Kind
kind_delimited bs at.Begin = Begin (value bs)
kind_delimited bs at.End = End (value bs)
kind_delimited bs at.Other = Other

abbrev pub kinds : List Line → List Kind
kinds [] = []
kinds (l ∷ ls) = kind l.text ∷ kinds ls

-- the lines left once x and what stands open around it are closed: n more may open inside
abbrev pub walk : ℕ → List ℕ → List (List ℕ) → List Kind → Option (List Kind)
walk n x outer [] = None
walk zero x outer (Begin y ∷ ks) = None
walk (suc n) x outer (Begin y ∷ ks) = walk n y (x ∷ outer) ks
walk n x [] (End y ∷ ks) = cond (same y x) (Some ks) None
walk n x (w ∷ outer) (End y ∷ ks) = cond (same y x) (walk (suc n) w outer ks) None
walk n x outer (Other ∷ ks) = walk n x outer ks

-- the lines left after the component x, whose BEGIN is read, with n levels to open
abbrev pub opened : ℕ → List ℕ → List Kind → Option (List Kind)
opened zero x ks = None
opened (suc n) x ks = walk n x [] ks

abbrev pub none_left : Option (List Kind) → Bool
none_left None = false
none_left (Some []) = true
none_left (Some (k ∷ ks)) = false

abbrev pub calendar : List Kind → Bool
calendar [] = false
calendar (Begin x ∷ ks) = same (codes "VCALENDAR") x && none_left (walk 7 x [] ks)
calendar (End x ∷ ks) = false
calendar (Other ∷ ks) = false

-- one VCALENDAR around all lines
abbrev pub one_calendar : List Line → Bool
one_calendar ls = calendar (kinds ls)

-- the lines left, where nothing is refused
abbrev pub told : Option ℕ → List Kind → Option (List Kind)
told (Some n) ks = Some ks
told None ks = None
