use Rattle.std.proofs.Common.{arith}
use Rattle.short_lists.proofs.More.{one_more}
use Rattle.short_lists.proofs.ShortList.push.Goals as goal

pub invariant_of-self : goal.invariant_of-self
invariant_of-self g c = one_more _ _ _ _ _ c.self.invariant (omega (arith, c.self.invariant.within, c.if-self.false))
