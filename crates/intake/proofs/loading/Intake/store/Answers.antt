-- The check does not find it: the records past those in use, by a lemma of Added.
use Rattle.std.proofs.Common.{◌-◌, ◌++◌, length, drop, sym, ap, ◌∙◌, arith}
use borrow.Rule.Slice.PartMut.{mid_of}
use Rattle.icalendar.specs.Verdicts.{verdicts}
use Rattle.runs.specs.Plans.{accepted_in}
use Rattle.intake.specs.Stored.{added}
use Rattle.intake.proofs.Growing.{as_many}
use Rattle.intake.proofs.Added.{part_added}
use Rattle.intake.proofs.loading.Intake.store.Goals as goal

pub returns-clause-series : goal.returns-clause-series
returns-clause-series g c =
    let old = c.args.series.now in
    let k = c.from.result in
    let shelf = g.S.Shelf.held c.args.self.now.shelf.now in
    let q = c.store_events.ensures.series in
    let many = as_many shelf q.0 (accepted_in (verdicts shelf c.args.self.now.number c.args.self.now.file.now)) q.1 in (
      q.0,
      q.1,
      part_added k old c.store_events.new.series q.0 (omega (arith, c.from.ensures, c.requires.series)) (q.2 ∙ ap (λ n. q.0 ++ drop n (mid_of k (length old - k) old)) (sym many))
          ∙ ap (λ n. added n q.0 old) c.from.ensures,
    )
