-- The check does not find these: what is said of one more event, and of all.
use Rattle.std.proofs.Common.{◌++◌, ap, ◌∙◌, arith, vec_items}
use Rattle.listing.proofs.EachSaid.{event_more, event_last}
use Rattle.listing.proofs.files.each_said.Goals as goal

pub loop-i-preserved : goal.loop-i-preserved
loop-i-preserved g c =
    event_more (g.S.Shelf.held c.args.shelf.now) c.args.query c.args.verdicts.now c.loop-i.i c.index-verdicts-i.result (vec_items c.loop-i.text) _ _
    c.loop-i-test.true c.index-verdicts-i.is c.loop-i.invariant c.in_ok-said.ensures
    (c.in_ok-extend_from_slice.ensures.items ∙ ap (λ line. vec_items c.loop-i.text ++ line) c.as_slice.ensures.value)

pub returns : goal.returns
returns g c =
    event_last (g.S.Shelf.held c.args.shelf.now) c.args.query c.args.verdicts.now c.loop-i.i (vec_items c.loop-i.text) (let ended = c.loop-i-test.false in omega arith) c.loop-i.invariant
