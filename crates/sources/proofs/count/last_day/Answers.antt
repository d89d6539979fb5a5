-- Without these the check leaves the goals open: they cite lemmas of ours.
use Rattle.std.proofs.Common.{arith}
use Rattle.sources.proofs.Counts.{below_mono, start, step, walked_last}
use Rattle.sources.proofs.count.last_day.Goals as goal

pub loop-i-init : goal.loop-i-init
loop-i-init g c = start _

pub loop-i-preserved : goal.loop-i-preserved
loop-i-preserved g c = step _ c.loop-i.invariant c.in-Some.ensures

pub returns-after-loop-i : goal.returns-after-loop-i
returns-after-loop-i g c =
    let set = g.S.Source.days c.args.source.now in
    walked_last set c.loop-i.last c.loop-i.invariant (omega arith)
    (λ e o h. omega (arith, below_mono set c.loop-i.at e h, c.loop-i.invariant.counted))

pub returns-in_default : goal.returns-in_default
returns-in_default g c = walked_last _ c.loop-i.last c.loop-i.invariant (omega arith) (λ e o h. absurd (c.in_default.ensures e o h))
