-- The check does not find these, since the places come back from two loans, of which one lies in the other.
use Rattle.std.proofs.Common.{◌≡◌, ◌-◌, length, take, drop, sym, ◌∙◌, arith}
use native.Mathlib.Nat.{sub-zero}
use Rattle.std.proofs.lemmas.List.{get_or-take}
use Rattle.std.proofs.lemmas.List.Sorted.{IsPermutation-trans}
use Rattle.queue.proofs.Heaps.{heaped_same, new_first, top_least}
use Rattle.queue.proofs.Fronts.{pops, front_at, lent_twice}
use Rattle.queue.proofs.pop.Goals as goal

pub returns-clause-popped : goal.returns-clause-popped
returns-clause-popped g c =
    let xs = c.args.slots.now in
    let used = c.args.used in
    let n = used - 1 in
    let x = c.index-front-0.result in
    let ws = c.swap.new.self in
    let w = c.swap.ensures in
    let ys = c.sink.new.front in
    let before = g.T.Entry.before in
    let top = c.index-front-0.is ∙ get_or-take _ xs 0 x (omega arith) in
    record {
      some = omega arith;
      least = top_least before g.T.Entry.order xs used x (omega arith) (omega arith) top;
      others = rw (lent_twice ys (drop (n - 0) ws) (drop (used - 0) xs) n (omega arith)) (IsPermutation-trans _ _ _ (rw sub-zero at w.permutation) (pops ws ys n x (omega arith) (w.by_index.1 x ∙ sym c.index-front-0.is) (rw sub-zero at c.sink.ensures.entries)));
    }

pub returns-clause-heaped : goal.returns-clause-heaped
returns-clause-heaped g c =
    let xs = c.args.slots.now in
    let used = c.args.used in
    let n = used - 1 in
    let ws = c.swap.new.self in
    let ys = c.sink.new.front in
    let before = g.T.Entry.before in
    let part = take (n - 0) ws in
    let long : length ys ≡ n = omega arith in
    λ heaped.
    let start = new_first before xs part used (length part) (omega arith) (λ k d u f. get_or-take (n - 0) ws k d (omega arith) ∙ c.swap.ensures.by_index.2 k d u (omega arith) ∙ get_or-take _ xs k d (omega arith)) heaped in
    heaped_same before ys _ n (front_at _ ys n (lent_twice ys (drop (n - 0) ws) (drop (used - 0) xs) n long)) (rw long at (c.sink.ensures.heaped start))
