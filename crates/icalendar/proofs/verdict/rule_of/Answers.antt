-- The check does not find it: the first of the lines, by a lemma of Ruled.
use Rattle.std.proofs.Common.{rules}
use Rattle.icalendar.proofs.Ruled.{among}
use Rattle.icalendar.proofs.verdict.rule_of.Goals as goal

pub returns : goal.returns
returns g c =
    rw (c.transpose.ensures, ← c.named.ensures) (among (g.S.Shelf.held c.args.shelf.now) c.args.start _ (λ line a h. search rules) _ _ _ _ c.next-rule.ensures.steps c.map.ensures.cases)
