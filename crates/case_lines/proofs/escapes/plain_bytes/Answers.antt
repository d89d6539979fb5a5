-- The check does not find it: one more byte.
use Rattle.std.proofs.Common.{vec_items}
use Rattle.case_lines.proofs.Onward.{next_byte}
use Rattle.case_lines.proofs.escapes.plain_bytes.Goals as goal

pub loop-left-preserved : goal.loop-left-preserved
loop-left-preserved c =
    next_byte (vec_items c.loop-left.bytes) c.in-Some.b c.loop-left.left.now c.in-Some.rest.now _ _ c.in-Some.ensures.0 c.in_ok-push.ensures.items c.loop-left.invariant
