-- The ending that a question goes by leaves the days that the ending itself leaves, if what is kept with it is right.
use Rattle.std.proofs.Common.{ℕ, Bool, ◌&&◌, ◌||◌, not, List, Some, None, Option, refl, ap}
use Rattle.sources.specs.Sets.{Found, Same, listed}
use Rattle.sources.specs.Events.{event_days, limited, limit_in, Kept as KeptRight}
use Rattle.sources.specs.declared.events.Ending.{Ending}
use Rattle.sources.specs.declared.events.Ending.TheVariants.{Endless, Until, Count}
use Rattle.sources.proofs.Counts.{first_until, none_until}
use Rattle.sources.proofs.Sames.{found_same}
use Rattle.series.specs.Record.{as_kept}

module _ (set : ℕ → Bool) where
  -- it asks no proof of what is kept
  pub asks_nothing : (e : Ending) → KeptRight set (as_kept e)
  asks_nothing Endless = tt
  asks_nothing (Until day) = tt
  asks_nothing (Count n last) = tt

  same_limited : (e : Ending) → KeptRight set e → Same (limited set (limit_in (as_kept e))) (limited set (limit_in e))
  same_limited Endless kept = λ d r. refl
  same_limited (Until day) kept = λ d r. refl
  same_limited (Count n (Some last)) kept = first_until set n last kept
  same_limited (Count n None) kept = none_until set n kept

  pub by_kept : (e : Ending) (rs xs : List ℕ) (from : ℕ) (r : Option ℕ) → KeptRight set e
      → Found (event_days set (limit_in (as_kept e)) rs xs) from r → Found (event_days set (limit_in e) rs xs) from r
  by_kept e rs xs from r kept =
      found_same _ _ (λ d o. ap (λ b. (b || listed rs d) && not (listed xs d)) (same_limited e kept d o)) from r
