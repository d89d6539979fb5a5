-- The check does not find these: the next of the days that are left, and that none is.
use Rattle.std.proofs.Common.{◌≡◌, [], ◌++◌, sym, ap, ◌∙◌, append-nil, arith, vec_items}
use lib.Seq.{append_snoc}
use Rattle.series.specs.Record.{series_days, days_between}
use Rattle.series.proofs.Between.{ended, past, next}
use Rattle.series.proofs.days_of.days_between.Goals as goal
use Rattle.series.proofs.days_of.days_between.Goals.{in-Some+then-day-last, in_default}

pub loop-day-preserved : goal.loop-day-preserved
loop-day-preserved g c =
    let set = series_days (g.S.Shelf.held c.args.shelf.now) c.args.series.now in
    let day = c.in-Some.day in
    rw c.in_ok-push.ensures.items
    (append_snoc (vec_items c.loop-day.days) day _
    ∙ ap (λ ds. vec_items c.loop-day.days ++ ds) (sym (next set c.loop-day.from c.args.last day (c.in-Some.ensures c.requires) (omega arith)))
    ∙ c.loop-day.invariant)

pub returns : goal.returns
returns g c =
    let set = series_days (g.S.Shelf.held c.args.shelf.now) c.args.series.now in
    let so_far = c.loop-day.invariant in
    let none : days_between set c.loop-day.from c.args.last ≡ [] =
    elim c.match-next_day.branch [
      | in-Some+then-day-last w ↦ past set c.loop-day.from c.args.last w.in-Some.day (w.in-Some.ensures c.requires) (omega arith)
      | in_default w ↦ ended set c.loop-day.from c.args.last (w.in_default.ensures c.requires)
    ] in
    sym (append-nil (vec_items c.loop-day.days)) ∙ ap (λ ds. vec_items c.loop-day.days ++ ds) (sym none) ∙ so_far
