-- The check finds no invariant of a loop.
use Rattle.std.proofs.Common.{◌-◌, ◌&&◌, ltb}
use Rattle.rules.specs.Meaning.{week_gives}
use Rattle.rule_months.specs.Filling.{Adds}
use Rattle.rule_days.proofs.search.Search.add_week.Given as goal

abbrev pub invariant-loop-day : goal.invariant-loop-day
invariant-loop-day g l =
    Adds l.initial.queue l.queue (l.day - l.first)
    (λ n. ltb n l.day && week_gives (g.C.Sheets.meaning l.self.calendar.now) l.self.rule.now l.self.start l.first n)
