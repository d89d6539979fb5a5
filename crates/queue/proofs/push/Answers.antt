-- The check does not find that the entry, written last and moved, stands among the others.
use Rattle.std.proofs.Common.{◌+◌, ◌-◌, arith}
use Rattle.std.proofs.lemmas.List.{take_at}
use Rattle.queue.proofs.Fronts.{pushes}
use Rattle.queue.proofs.push.Goals as goal

pub returns-clause-entries : goal.returns-clause-entries
returns-clause-entries g c =
    let n = c.args.used in
    let ys = c.rise.new.front in
    rw (take_at ys _ (n + 1) (omega arith)) (pushes c.args.slots.now ys n (n + 1 - 0) c.args.entry (omega arith) (omega arith) c.rise.ensures.entries)
