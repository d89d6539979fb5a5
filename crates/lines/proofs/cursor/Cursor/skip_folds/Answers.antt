-- The check does not find it: past a fold, what is left of the line is the same.
use Rattle.std.proofs.Common.{◌∙◌, rules, arith}
use Rattle.std.proofs.lemmas.Bool.Decides.{nat_tests}
use Rattle.lines.proofs.Folds.{past_fold, shorter}
use Rattle.lines.proofs.cursor.Cursor.skip_folds.Goals as goal

pub loop-self-preserved : goal.loop-self-preserved
loop-self-preserved c =
    let xs = c.loop-self.self.rest.now in
    (past_fold c.loop-self.self.place xs (search (rules, arith, nat_tests)) (omega arith) (grind (arith, nat_tests)) ∙ c.loop-self.invariant.0, omega (arith, shorter 3 xs))
