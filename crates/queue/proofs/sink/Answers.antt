-- The check does not find that an exchange with the child leaves one entry that looks for its place.
use Rattle.std.proofs.Common.{true, length, arith}
use Rattle.std.proofs.lemmas.List.Sorted.{IsPermutation-trans}
use Rattle.queue.proofs.Heaps.{tells, sinks}
use Rattle.queue.proofs.sink.Goals as goal

pub loop-j-preserved : goal.loop-j-preserved
loop-j-preserved g c =
    let l = c.loop-j in
    let w = c.swap.ensures in
    let before = g.T.Entry.before in
    let child = c.earlier_child-child in (
      IsPermutation-trans _ _ _ l.invariant.0 w.permutation,
      λ heaped. sinks before g.T.Entry.order l.front c.swap.new.self l.j child.result (length c.args.front.now)
          (omega arith) (omega arith) (omega arith) w.by_index.0 w.by_index.1 w.by_index.2
          (tells before l.front child.result l.j _ _ c.earlier.result true (omega arith) (omega arith) c.index-front-child.is c.index-front-j.is c.earlier.ensures c.if-not-earlier.false)
          (λ k d p q r. child.ensures.leads k d p q (omega arith))
          (l.invariant.1 heaped).0,
    )
