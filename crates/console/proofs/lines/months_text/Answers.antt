use Rattle.std.proofs.Common.{None, refl}
use Rattle.std.specs.Iterator.Adapters.{zip_first, zip_second}
use Rattle.std.specs.Slice.Iter.{iter_rest}
use Rattle.std.proofs.lemmas.Slice.Zip.{either_empty_from_Zip}
use Rattle.console.specs.Lines.{month_text}
use Rattle.console.proofs.Said.{all_said}
use Rattle.console.proofs.lines.months_text.Goals as goal

pub returns : goal.returns
returns c =
    let it = c.loop-code.code-iterator in
    all_said month_text (iter_rest (zip_first it)) (iter_rest (zip_second it)) _ _
    (either_empty_from_Zip it it None refl c.in-None.ensures.steps) c.loop-code.invariant
