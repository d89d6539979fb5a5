-- The parts of a rule give what the rule gives.
use Rattle.std.proofs.Common.{◌≡◌, ℕ, Bool, true, false, sym, refl, ap}
use Rattle.std.proofs.Math.Bool.{Bool-set}
use Rattle.std.proofs.Math.Path.{fun_ext}
use Rattle.calendar.specs.Sheets.{Almanac}
use Rattle.rules.specs.declared.checked.Rule.{Rule}
use Rattle.rules.specs.Meaning.{gives}
use Rattle.rules.specs.declared.parts.Parts.{Parts}
use Rattle.rules.specs.Parts.{fitting}
use Rattle.rules.specs.Making.{given_where, parts_give, PartsSay}

where_true : (a : Almanac) (r : Rule) (start n : ℕ) (b : Bool) (e : fitting r.parts ≡ b) → b ≡ true → given_where a r.parts b e start n ≡ gives a r start n
where_true a r start n true e t =
    ap (λ (fits : fitting r.parts ≡ true). gives a (record { parts = r.parts; checked = fits }) start n) (Bool-set (fitting r.parts) true e r.checked)
where_true a r start n false e t = cc

pub parts_as_rule : (a : Almanac) (r : Rule) (start n : ℕ) → parts_give a r.parts start n ≡ gives a r start n
parts_as_rule a r start n = where_true a r start n (fitting r.parts) refl r.checked

-- and so for the set of its days
pub same_set : (a : Almanac) (r : Rule) (start : ℕ) → gives a r start ≡ parts_give a r.parts start
same_set a r start = sym (fun_ext (λ n. parts_as_rule a r start n))

where_false : (a : Almanac) (p : Parts) (start n : ℕ) (b : Bool) (e : fitting p ≡ b) → b ≡ false → given_where a p b e start n ≡ false
where_false a p start n true e t = cc
where_false a p start n false e t = refl

pub parts_say : PartsSay
parts_say = record { checked = parts_as_rule; unfit = λ a p start n e. where_false a p start n (fitting p) refl e }
