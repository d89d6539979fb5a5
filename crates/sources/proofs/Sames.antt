-- Sets with the same days have the same answers.
-- The library has no sets by a test and no least element of one.
use Rattle.std.proofs.Common.{ℕ, Bool, Some, None, Option, sym, ◌∙◌}
use Rattle.sources.specs.Sets.{DayOf, Found, Same}

module _ (s t : ℕ → Bool) (same : Same s t) where
  there : (d : ℕ) → DayOf s d → DayOf t d
  there d o = record { ranged = o.ranged; on = sym (same d o.ranged) ∙ o.on }

  back : (d : ℕ) → DayOf t d → DayOf s d
  back d o = record { ranged = o.ranged; on = same d o.ranged ∙ o.on }

  pub found_same : (from : ℕ) (r : Option ℕ) → Found s from r → Found t from r
  found_same from None f = λ e o h. f e (back e o) h
  found_same from (Some d) f = record { day = there d f.day; late = f.late; least = λ e o h. f.least e (back e o) h }
