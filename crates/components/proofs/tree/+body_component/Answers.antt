-- The check finds none of these: a BEGIN before the lines of what it begins, walked and counted, and that the counts
-- fit.
use Rattle.std.proofs.Common.{◌+◌, length, sym, ap, ◌∙◌, arith}
use Rattle.lines.specs.View.{view, text}
use Rattle.components.proofs.Counting.{few, begin_walk, begin_count}
use Rattle.components.proofs.tree.+body_component.Goals as goal

pub component-overflow_add-result : goal.component-overflow_add-result
component-overflow_add-result t c = omega (arith, c.in_ok-inside.ensures.counted, few (c.args.opened.depth + 1) c.args.lines.now, c.events_begun.ensures.few)

pub body-overflow_add-count : goal.body-overflow_add-count
body-overflow_add-count t c =
    let line = c.in-Some.ensures in
    let i = c.in_ok-inside-in-Begin.ensures in
    let k = begin_count (view c.loop-line.lines) _ _ _ (c.args.opened.depth + 1) (text c.in-Begin.name) line.first line.later (sym c.in-Begin.ensures) in
    let n = rw (i.deeper, i.named) at c.in_ok-count-in-Begin.ensures.counted in
    omega (arith, k, n, few (c.args.opened.depth + 1) c.loop-line.lines, c.loop-line.invariant.1, few (c.args.opened.depth + 1) c.args.lines.now)

pub body-loop-line-preserved-in-Begin : goal.body-loop-line-preserved-in-Begin
body-loop-line-preserved-in-Begin t c =
    let line = c.in-Some.ensures in
    let inner = c.in_ok-inside-in-Begin.field-0 in
    let i = c.in_ok-inside-in-Begin.ensures in
    let r = c.in_ok-count-in-Begin.ensures in
    let w = begin_walk (view c.loop-line.lines) _ _ _ c.args.opened.depth inner.depth (text c.args.opened.name) (text c.in-Begin.name) _ _ line.first line.later (sym c.in-Begin.ensures) i.deeper inner.within (ap text i.named) r.left in
    let k = begin_count (view c.loop-line.lines) _ _ _ (c.args.opened.depth + 1) (text c.in-Begin.name) line.first line.later (sym c.in-Begin.ensures) in
    let n = rw (i.deeper, i.named) at r.counted in
    (sym w ∙ c.loop-line.invariant.0, omega (arith, k, n, c.loop-line.invariant.1), omega (arith, ap length line.first, ap length line.later, r.on, c.loop-line.invariant.2))

pub body-returns-in_err-count-in-Begin-clause-left : goal.body-returns-in_err-count-in-Begin-clause-left
body-returns-in_err-count-in-Begin-clause-left t c =
    let line = c.in-Some.ensures in
    let inner = c.in_ok-inside-in-Begin.field-0 in
    let i = c.in_ok-inside-in-Begin.ensures in
    let w = begin_walk (view c.loop-line.lines) _ _ _ c.args.opened.depth inner.depth (text c.args.opened.name) (text c.in-Begin.name) _ _ line.first line.later (sym c.in-Begin.ensures) i.deeper inner.within (ap text i.named) c.in_err-count-in-Begin.ensures.left in
    rw c.from_residual-in_err-count-in-Begin.ensures (sym w ∙ c.loop-line.invariant.0)
