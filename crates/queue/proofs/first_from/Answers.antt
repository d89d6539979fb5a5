-- The check does not find what an entry that was taken out and is too early leaves of those that are looked for.
use Rattle.std.proofs.Common.{◌≡◌, ◌-◌, true, ◌∷◌, take, subst, ⊎_elim, arith}
use Rattle.std.proofs.lemmas.List.Sorted.{IsPermutation-sym}
use Rattle.std.proofs.lemmas.Bool.{both_ways}
use Rattle.queue.proofs.Fronts.{past_later}
use Rattle.queue.proofs.Members.{with_keeps, with_only}
use Rattle.queue.proofs.first_from.Goals as goal

pub returns-then-not-earlier-clause-beyond : goal.returns-then-not-earlier-clause-beyond
returns-then-not-earlier-clause-beyond g c =
    let l = c.loop-entry in
    past_later c.pop.new.slots l.slots c.args.slots.now l.left c.args.used (omega arith) c.pop.ensures.beyond l.invariant.3

pub loop-entry-preserved : goal.loop-entry-preserved
loop-entry-preserved g c =
    let l = c.loop-entry in
    let x = c.in-Some.entry in
    let before = g.T.Entry.before in
    let had = take l.left l.slots in
    let rest = take (l.left - 1) c.pop.new.slots in
    let others = IsPermutation-sym had (x ∷ rest) c.in-Some.ensures.popped.others in
    let early : before x c.args.from ≡ true = rw c.earlier.ensures at c.if-not-earlier.false in (
      omega arith,
      omega arith,
      c.pop.ensures.heaped l.invariant.2,
      past_later c.pop.new.slots l.slots c.args.slots.now l.left c.args.used (omega arith) c.pop.ensures.beyond l.invariant.3,
      λ y h. l.invariant.4 y (with_keeps x rest had others y h),
      λ y h late. ⊎_elim (λ e. absurd (both_ways (before y c.args.from) late (subst (λ z. before z c.args.from ≡ true) e early))) (λ m. m)
          (with_only x rest had others y (l.invariant.5 y h late)),
    )
