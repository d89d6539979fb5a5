-- The check finds no invariant of a walk.
use Rattle.std.proofs.Common.{◌≡◌, ℕ}
use Rattle.rules.specs.Meaning.{month_after}
use Rattle.rule_days.proofs.steps.months_on.Given as goal

-- the month is the one as many months on as the turns made, and `months` is of its year's sheet
abbrev pub invariant-loop-i : goal.invariant-loop-i
invariant-loop-i g l =
    (◌≡◌ {A = ℕ × ℕ} (l.year, l.place) (month_after (g.C.Sheets.meaning l.calendar) (l.initial.year, l.initial.place) l._i))
    × (l.months ≡ ((g.C.Sheets.meaning l.calendar).sheet l.year).months)
