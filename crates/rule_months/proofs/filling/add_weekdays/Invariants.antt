-- The check finds no invariant of a loop.
use Rattle.std.proofs.Common.{◌-◌, ◌&&◌, ltb}
use Rattle.rules.specs.Meaning.{weekdays_give}
use Rattle.rule_months.specs.Filling.{Adds}
use Rattle.rule_months.proofs.filling.add_weekdays.Given as goal

abbrev pub invariant-loop-day : goal.invariant-loop-day
invariant-loop-day l =
    Adds l.initial.queue l.queue (l.day - l.stretch.from) (λ n. ltb n l.day && weekdays_give l.rule l.stretch n)
