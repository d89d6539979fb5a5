-- Without these the check leaves the goals open: they cite lemmas of ours.
use Rattle.std.proofs.Common.{Bool, ◌&&◌, eqb, ap}
use Rattle.rule_months.proofs.Added.{adds_one}
use Rattle.rule_months.proofs.filling.add_if.Goals as goal

pub returns-then-keep : goal.returns-then-keep
returns-then-keep c =
    adds_one c.args.queue.now c.push.new.self c.args.day (λ n. c.args.keep && eqb n c.args.day) c.push.ensures
    (λ n. ap (λ (b : Bool). b && eqb n c.args.day) c.if-keep.true)
