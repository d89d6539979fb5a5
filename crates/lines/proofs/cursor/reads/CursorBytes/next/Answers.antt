-- The check does not find it: a byte that begins no line's end stands before what is left past it.
use Rattle.std.proofs.Common.{sym, ap, ◌∙◌, rules, arith}
use Rattle.std.proofs.lemmas.Bool.Decides.{nat_tests}
use Rattle.lines.specs.Lines.{Rest}
use Rattle.lines.proofs.Folds.{past_byte}
use Rattle.lines.proofs.cursor.reads.CursorBytes.next.Goals as goal

pub returns-in-len1-up-clause-read : goal.returns-in-len1-up-clause-read
returns-in-len1-up-clause-read c =
    ap (λ (r : Rest). r.text) (sym c.skip_folds.ensures.same ∙ past_byte c.skip_folds.new.self.place c.skip_folds.new.self.rest.now (search (rules, arith, nat_tests)))
