use Rattle.std.proofs.Common.{string_bytes}
use Rattle.console.proofs.Said.{SaidBelow}
use Rattle.console.proofs.lines.dates_text.Given as goal

abbrev pub invariant-loop-place : goal.invariant-loop-place
invariant-loop-place g l = SaidBelow (g.S.Shelf.held l.shelf) l.day l.place (string_bytes l.text)
