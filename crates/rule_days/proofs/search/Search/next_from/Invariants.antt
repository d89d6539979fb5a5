use Rattle.std.proofs.Common.{◌≡◌, ◌-◌, ◌≤◌, [], length}
use Rattle.rules.specs.Meaning.{period_gives}
use Rattle.rule_days.specs.Onward.{Reached, the_date}
use Rattle.rule_days.proofs.Finding.{Left}
use Rattle.rule_days.proofs.search.Search.next_from.Given as goal

abbrev pub invariant-loop-day : goal.invariant-loop-day
invariant-loop-day g l =
    (l.queue.places ≡ 806)
    × Left l.queue.entries (period_gives (g.C.Sheets.meaning l.self.calendar.now) l.self.rule.now l.self.start (the_date l.self.date) l.period) l.low

abbrev pub decreases-loop-day : goal.decreases-loop-day
decreases-loop-day g l = length l.queue.entries

abbrev pub invariant-search : goal.invariant-search
invariant-search g l =
    (l.queue.entries ≡ []) × (l.queue.places ≡ 806)
    × (found : Reached (g.C.Sheets.meaning l.self.calendar.now) l.self.rule.now l.self.start (the_date l.self.date) l.low l.period) × (l.passed ≤ found.which)

abbrev pub decreases-search : goal.decreases-search
decreases-search g l = 900000 - l.passed
