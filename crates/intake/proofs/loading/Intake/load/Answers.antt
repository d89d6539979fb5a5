-- The check does not find these: the records in use with those that were added, by lemmas of Added.
use Rattle.std.proofs.Common.{◌≡◌, ◌+◌, ◌≤◌, List, length, take, sym, ap, ◌∙◌, subst, arith}
use Rattle.std.specs.List.{All}
use Rattle.std.proofs.lemmas.List.{length-take-le}
use Rattle.series.specs.declared.record.Series.{Series}
use Rattle.series.specs.Record.{Ready}
use Rattle.icalendar.specs.Verdicts.{verdicts}
use Rattle.heads.specs.Heads.{sets_of, Heads}
use Rattle.runs.specs.Plans.{accepted_in}
use Rattle.intake.proofs.Added.{records_before, records_ready}
use Rattle.intake.proofs.loading.Intake.load.Goals as goal

pub slice_bounds-coming-end : goal.slice_bounds-coming-end
slice_bounds-coming-end g c = omega (arith, c.from.ensures, c.store-made.ensures.one_each, c.requires.series.0, c.store-made.auto.series)

pub slice_bounds-coming-end-2 : goal.slice_bounds-coming-end-2
slice_bounds-coming-end-2 g c = sym (length-take-le c.from.result c.store-made.new.series (omega (arith, c.from.ensures, c.store-made.ensures.one_each, c.requires.series.0, c.store-made.auto.series)))

pub queue_new-queued-requires-clause-all : goal.queue_new-queued-requires-clause-all
queue_new-queued-requires-clause-all g c =
    length-take-le c.from.result c.store-made.new.series (omega (arith, c.from.ensures, c.store-made.ensures.one_each, c.requires.series.0, c.store-made.auto.series)) ∙ c.from.ensures

pub returns-clause-heads : goal.returns-clause-heads
returns-clause-heads g c =
    let shelf = g.S.Shelf.held c.args.self.now.shelf.now in
    let k = c.args.used.series in
    let old = c.args.series.now in
    let new = c.store-made.new.series in
    let made = c.store-made.ensures in
    let events = accepted_in (verdicts shelf c.args.self.now.number c.args.self.now.file.now) in
    let last = c.args.self.now.last in
    let mark = c.args.self.now.mark in
    let size : k + length events ≡ k + c.store-made.result.series = ap (λ n. k + n) (sym made.series_made) in
    let within : k ≤ length old = omega (arith, c.requires.series.0) in
    let slice : c.from.result ≡ k + c.store-made.result.series = c.from.ensures in
    λ first all heads.
    let ready : All (Ready shelf) (take (k + c.store-made.result.series) new) = subst (λ n. All (Ready shelf) (take n new)) size (records_ready shelf k events old new made.series within all) in
    let before : take k old ≡ take k (take c.from.result new) = sym (ap (λ n. take k (take n new)) (slice ∙ sym size) ∙ records_before shelf k events old new made.series within) in (
      ready,
      subst (λ n. Heads first last (sets_of shelf (take n new)) mark c.queue_new-queued.new.queue c.queue_new-queued.result 0) slice
          (c.queue_new-queued.ensures.heads first (subst (λ n. All (Ready shelf) (take n new)) (sym slice) ready)
          (subst (λ (ss : List Series). Heads first last (sets_of shelf ss) mark c.args.queue.now c.args.used.queued 0) before heads)),
    )
