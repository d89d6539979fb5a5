-- What the loop keeps: the check does not find an invariant.
use Rattle.std.proofs.Common.{◌≡◌, ◌++◌, drop, map, vec_items}
use Rattle.answers.specs.Titles.{shown}
use Rattle.answers.proofs.titles.shown_bytes.Given as goal

-- the bytes so far and those that are left are shown as all are
abbrev pub invariant-loop-byte : goal.invariant-loop-byte
invariant-loop-byte l = vec_items l.text ++ map shown (drop l.byte-index l.bytes) ≡ map shown l.bytes
