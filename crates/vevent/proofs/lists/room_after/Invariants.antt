-- What the loop keeps: the check does not find an invariant.
use Rattle.std.proofs.Common.{◌≡◌, length}
use Rattle.text.specs.Pieces.{ahead}
use Rattle.vevent.specs.Lists.{room_after}
use Rattle.vevent.proofs.lists.room_after.Given as goal

abbrev pub invariant-loop : goal.invariant-loop
invariant-loop g l = room_after l.room (length (ahead g.B.Bytes.left l.iterator')) ≡ room_after l.initial.room (length (ahead g.B.Bytes.left l.initial.iterator'))
