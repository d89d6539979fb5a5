-- The check does not find what a copy into a part of a text leaves of the whole.
use Rattle.std.proofs.Common.{◌+◌, ◌-◌, ◌≡◌, ◌∙◌, refl, arith}
use Rattle.report.specs.Lines.{entry_line}
use Rattle.report.proofs.Written.{copied}
use Rattle.report.proofs.due.write_line.Goals as goal

pub returns : goal.returns
returns c =
    let at = c.args.at in
    let width : at + 19 - at ≡ 19 = omega arith in
    rw width (copied at 19 c.args.text.now c.copy_from_slice.new.self (entry_line c.args.entry.now) (omega arith) (c.copy_from_slice.ensures.after ∙ c.entry_line.ensures) refl)
