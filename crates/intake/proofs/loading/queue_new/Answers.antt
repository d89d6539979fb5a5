-- The check does not find these: the heads with one series more, by lemmas of Known.
use Rattle.std.proofs.Common.{◌≡◌, ◌+◌, ◌<◌, List, length, take, sym, subst, refl, arith}
use Rattle.std.proofs.lemmas.List.{take_all}
use Rattle.std.proofs.lemmas.List.Elements.{All-take}
use Rattle.series.specs.declared.record.Series.{Series}
use Rattle.series.specs.Record.{Ready}
use Rattle.heads.specs.Heads.{sets_of, Heads}
use Rattle.queue.proofs.Fronts.{past_later}
use Rattle.intake.proofs.Known.{known_more, known_long}
use Rattle.intake.proofs.loading.queue_new.Goals as goal

pub loop-k-init : goal.loop-k-init
loop-k-init g c = record { few = c.requires.queued.0; heads = λ first all heads. heads; beyond = refl }

pub refill-left-requires : goal.refill-left-requires
refill-left-requires g c = omega (arith, c.loop-k.invariant.few, c.loop-k-test.true, c.loop-k.auto.queue, c.requires.room)

pub loop-k-preserved : goal.loop-k-preserved
loop-k-preserved g c =
    let l = c.loop-k in
    let shelf = g.S.Shelf.held c.args.coming.now.shelf.now in
    let series = c.args.coming.now.series.now in
    let last = c.args.coming.now.last in
    let mark = c.args.coming.now.mark in
    let i = l.invariant in
    let r = c.refill-left.ensures in
    let j = c.from.result in
    let within : l.k < length series = omega (arith, c.loop-k-test.true, c.requires.all) in
    let here : j < length series = omega (arith, within, c.from.ensures) in
    record {
      few = omega (arith, i.few, r.rest.0);
      heads = λ first all heads.
          subst (λ n. Heads first last (sets_of shelf (take (n + 1) series)) mark c.refill-left.new.queue c.refill-left.result 0) c.from.ensures
          (r.heads first (All-take (Ready shelf) (j + 1) series all) (omega arith) (omega (arith, known_long shelf series j here, c.from.ensures))
          (subst (λ n. Heads first last (sets_of shelf (take (n + 1) series)) mark l.queue l.left (l.k + 1)) (sym c.from.ensures)
          (known_more shelf series l.k within first last mark l.queue l.left (i.heads first all heads))));
      beyond = past_later c.refill-left.new.queue l.queue c.args.queue.now (l.left + 1) c.args.to (omega (arith, i.few, c.loop-k-test.true)) r.rest.1 i.beyond;
    }

pub returns-clause-heads : goal.returns-clause-heads
returns-clause-heads g c =
    let l = c.loop-k in
    let series = c.args.coming.now.series.now in
    let whole : take l.k series ≡ series = take_all l.k series (omega arith) in
    λ first all heads.
    subst (λ (ss : List Series). Heads first c.args.coming.now.last (sets_of (g.S.Shelf.held c.args.coming.now.shelf.now) ss) c.args.coming.now.mark l.queue l.left 0) whole
    (l.invariant.heads first all heads)

pub returns-clause-rest : goal.returns-clause-rest
returns-clause-rest g c = (omega arith, c.loop-k.invariant.beyond)
