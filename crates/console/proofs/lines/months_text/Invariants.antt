use Rattle.std.proofs.Common.{◌≡◌, ◌++◌, string_bytes}
use Rattle.std.specs.Iterator.Adapters.{zip_first, zip_second}
use Rattle.std.specs.Slice.Iter.{iter_rest}
use Rattle.console.specs.Texts.{each_said}
use Rattle.console.specs.Lines.{month_text, months_text}
use Rattle.console.proofs.lines.months_text.Given as goal

abbrev pub invariant-loop-code : goal.invariant-loop-code
invariant-loop-code l =
    string_bytes l.text ++ each_said month_text (iter_rest (zip_first l.code-iterator)) (iter_rest (zip_second l.code-iterator)) ≡ months_text l.codes l.lengths
