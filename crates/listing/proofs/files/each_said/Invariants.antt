-- What the loop keeps: the check does not find an invariant.
use Rattle.std.proofs.Common.{take, vec_items}
use Rattle.listing.specs.Lines.{Lines, numbered}
use Rattle.listing.specs.Texts.{verdicts_in, Said}
use Rattle.listing.proofs.files.each_said.Given as goal

-- what is said of the events so far
abbrev pub invariant-loop-i : goal.invariant-loop-i
invariant-loop-i g l =
    Lines (Said (g.S.Shelf.held l.shelf) l.query) (take l.i (numbered 1 (verdicts_in l.verdicts))) (vec_items l.text)
