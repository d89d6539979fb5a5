-- The check does not find it: the days of one more line, by a lemma of Filling.
use Rattle.std.proofs.Common.{◌++◌, ap, sym, ◌∙◌}
use Rattle.text.specs.Pieces.{pieces}
use Rattle.vevent.specs.Lists.{days_among}
use Rattle.vevent.specs.Kept.{days_listed}
use Rattle.vevent.proofs.Filling.{filled, twice}
use Rattle.vevent.proofs.kept.days_of.Goals as goal

pub loop-line-preserved : goal.loop-line-preserved
loop-line-preserved g c =
    let later = days_listed c.next.new.self in
    ap (λ ds. filled g.row.N ds later) c.add_days.ensures
    ∙ twice g.row.N c.loop-line.days _ later
    ∙ ap (λ t. filled g.row.N c.loop-line.days (days_among (pieces 44 t) ++ later)) c.value_of.ensures
    ∙ sym (ap (λ ls. filled g.row.N c.loop-line.days (days_listed ls)) c.in-Some.ensures.steps)
    ∙ c.loop-line.invariant
