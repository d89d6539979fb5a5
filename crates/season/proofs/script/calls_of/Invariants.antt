-- What the loop keeps: the check does not find an invariant.
use Rattle.std.proofs.Common.{◌≡◌, map, take, vec_items}
use Rattle.std.specs.List.{flat_map}
use Rattle.runs.specs.Runs.{requested}
use Rattle.season.specs.Scripts.{asked}
use Rattle.season.proofs.script.calls_of.Given as goal

-- the calls so far are those of the steps so far
abbrev pub invariant-loop-step : goal.invariant-loop-step
invariant-loop-step l = map requested (vec_items l.calls) ≡ flat_map asked (take l.step-index l.steps)
