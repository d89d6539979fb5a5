-- The check finds no invariant of a loop.
use Rattle.std.proofs.Common.{◌&&◌, take}
use Rattle.rules.specs.Parts.{some_of}
use Rattle.rules.specs.Meaning.{weekday_passes, value_gives}
use Rattle.rule_months.specs.Filling.{Adds}
use Rattle.rule_months.proofs.filling.add_listed.Given as goal

abbrev pub invariant-loop-value : goal.invariant-loop-value
invariant-loop-value l =
    Adds l.initial.queue l.queue l.value-index
    (λ n. weekday_passes l.rule n && some_of (value_gives l.rule.parts.skip l.month n) (take l.value-index l.list))
