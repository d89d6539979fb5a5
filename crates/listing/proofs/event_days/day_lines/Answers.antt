-- The check does not find it: the line of one more day.
use Rattle.std.proofs.Common.{◌++◌, ap, ◌∙◌, vec_items}
use Rattle.listing.specs.Texts.{DayLine}
use Rattle.listing.proofs.Written.{next_line}
use Rattle.listing.proofs.event_days.day_lines.Goals as goal

pub loop-day-preserved : goal.loop-day-preserved
loop-day-preserved c =
    next_line (DayLine c.args.number) c.args.days.now c.loop-day.day-index _ (vec_items c.loop-day.text) _ _
    c.loop-day-test.true c.loop-day.invariant c.in_ok-day_line.ensures
    (c.in_ok-extend_from_slice.ensures.items ∙ ap (λ line. vec_items c.loop-day.text ++ line) c.as_slice.ensures.value)
