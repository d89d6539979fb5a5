-- The check does not find these: what the pushed line makes of the heads.
use Rattle.std.proofs.Common.{◌+◌, take, arith}
use Rattle.std.proofs.lemmas.List.{length-map}
use Rattle.series.specs.Record.{series_days}
use Rattle.owed.proofs.Order.{before_test}
use Rattle.heads.specs.Heads.{sets_of}
use Rattle.heads.proofs.Counts.{behind_no, behind_permuted}
use Rattle.heads.proofs.Queued.{heads_refilled}
use Rattle.heads.proofs.coming.Coming.refill.Goals as goal

pub returns-clause-heads : goal.returns-clause-heads
returns-clause-heads g c first ready one loaded heads =
    let self = c.args.self.now in
    let shelf = g.S.Shelf.held self.shelf.now in
    let sets = sets_of shelf self.series.now in
    heads_refilled first self.last sets self.mark c.args.queue.now c.push.new.slots c.args.queued c.in-Some.line (omega arith)
    c.args.number heads c.requires one (omega (arith, loaded, length-map self.series.now (series_days shelf)))
    (c.in-Some.ensures.soonest ready one loaded) c.push.ensures.entries (c.push.ensures.heaped heads.heaped)

pub returns-clause-behind : goal.returns-clause-behind
returns-clause-behind g c =
    let mark = c.args.self.now.mark in
    let line = c.in-Some.line in
    let rest = take c.args.queued c.args.queue.now in
    omega (arith, behind_permuted mark _ (take (c.args.queued + 1) c.push.new.slots) c.push.ensures.entries, behind_no mark line rest (before_test mark line c.in-Some.ensures.after))
