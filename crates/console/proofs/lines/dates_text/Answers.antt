use Rattle.std.proofs.Common.{arith}
use Rattle.console.proofs.Said.{said_none, said_more}
use Rattle.console.proofs.lines.dates_text.Goals as goal

pub loop-place-init : goal.loop-place-init
loop-place-init g c = said_none _ _ _ c.new-text.ensures.bytes

pub loop-place-preserved : goal.loop-place-preserved
loop-place-preserved g c =
    let shelf = g.S.Shelf.held c.args.shelf.now in
    let name = c.name.ensures in
    let shown = c.as_str.ensures.value in
    let pushed = c.in_ok-push_str.ensures.bytes in
    let one = c.in_ok-calendar_text.ensures in
    said_more shelf c.args.day c.loop-place.place c.date_named-date.result _ _ (omega arith) c.date_named-date.ensures.named (cc) c.loop-place.invariant
