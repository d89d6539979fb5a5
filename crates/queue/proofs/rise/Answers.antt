-- The check does not find that an exchange with the parent leaves one entry that looks for its place.
use Rattle.std.proofs.Common.{◌-◌, ◌/◌, true, length, arith}
use Rattle.std.proofs.lemmas.List.Sorted.{IsPermutation-trans}
use Rattle.queue.proofs.Heaps.{tells, rises}
use Rattle.queue.proofs.rise.Goals as goal

pub loop-j-preserved : goal.loop-j-preserved
loop-j-preserved g c =
    let l = c.loop-j in
    let w = c.swap.ensures in
    let before = g.T.Entry.before in
    let up = (l.j - 1) / 2 in (
      omega arith,
      IsPermutation-trans _ _ _ l.invariant.1 w.permutation,
      λ heaped. rises before g.T.Entry.order l.front c.swap.new.self up l.j (length c.args.front.now)
          (omega arith) (omega arith) (omega arith) w.by_index.0 w.by_index.1 w.by_index.2
          (tells before l.front l.j up _ _ c.earlier.result true (omega arith) (omega arith) c.index-front-j.is c.index-front-parent.is c.earlier.ensures c.if-not-earlier.false)
          (l.invariant.2 heaped).0,
    )
