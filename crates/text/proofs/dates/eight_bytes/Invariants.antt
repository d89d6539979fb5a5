-- The check does not find it: what was read and what is left are the text.
use Rattle.std.proofs.Common.{◌≡◌, ◌++◌, length, take}
use Rattle.text.proofs.dates.eight_bytes.Given as goal

abbrev pub invariant-loop-byte : goal.invariant-loop-byte
invariant-loop-byte g l = (g.B.Bytes.left l.initial.text ≡ take l.byte-index l.byte-items ++ g.B.Bytes.left l.text) × (length l.byte-items ≡ 8)
