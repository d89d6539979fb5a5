-- The check does not find that the days until the last of the first n are the first n.
use Rattle.std.proofs.Common.{subst}
use Rattle.sources.specs.Sets.{LastOf}
use Rattle.sources.proofs.Counts.{first_until}
use Rattle.sources.proofs.Sames.{found_same}
use Rattle.sources.proofs.count.CountSource.next.Goals as goal

pub returns : goal.returns
returns g c =
    let s = c.args.self.now in
    let set = g.S.Source.days s.inner in
    let last = subst (LastOf set s.n) c.in_ok-last.was c.requires.1 in
    found_same _ _ (first_until set s.n c.in_ok-last.last last) c.args.from c.next.result c.next.ensures
