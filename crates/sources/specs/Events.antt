-- The days of an event: those of its rule within a limit and the added days, without the excluded days.
use Rattle.std.specs.Prelude.{ℕ, Bool, List}
use Rattle.sources.specs.Sets.{listed, until, except, union, first_n, LastOf}
use Rattle.sources.specs.declared.events.Limit.{Limit}
use Rattle.sources.specs.declared.events.Limit.TheVariants.{Endless, Until, Count}
use Rattle.sources.specs.declared.events.Ending.{Ending}
use Rattle.sources.specs.declared.events.Ending.TheVariants.{Endless as EndsNever, Until as EndsWith, Count as EndsAfter}

-- the days of a set that a limit leaves
abbrev pub limited : (ℕ → Bool) → Limit → ℕ → Bool
limited set Endless = set
limited set (Until last) = until set last
limited set (Count n) = first_n set n

-- excluded days count towards the limit all the same
abbrev pub event_days : (ℕ → Bool) → Limit → List ℕ → List ℕ → ℕ → Bool
event_days rule limit rdates exdates = except (union (limited rule limit) (listed rdates)) (listed exdates)

-- the limit of an ending
abbrev pub limit_in : Ending → Limit
limit_in EndsNever = Endless
limit_in (EndsWith day) = Until day
limit_in (EndsAfter n last) = Count n

-- what an ending keeps of a set is right: for a count, the last of the counted days
abbrev pub Kept : (ℕ → Bool) → Ending → Type 0
Kept set EndsNever = Unit {0}
Kept set (EndsWith day) = Unit {0}
Kept set (EndsAfter n last) = LastOf set n last
