-- The check finds neither: what is left past a line's end, and past a byte that begins none.
use Rattle.std.proofs.Common.{sym, ap, ◌∙◌, rules, arith}
use Rattle.std.proofs.lemmas.Bool.Decides.{nat_tests}
use Rattle.lines.specs.Lines.{Rest}
use Rattle.lines.proofs.Folds.{past_end, past_byte}
use Rattle.lines.proofs.cursor.Cursor.skip_line.Goals as goal

pub returns-in-13 : goal.returns-in-13
returns-in-13 c =
    let s = c.skip_folds.new.self in
    sym (ap (λ (r : Rest). r.later) (past_end s.place s.rest.now (search (rules, arith, nat_tests)) c.skip_folds.ensures.unfolded))
    ∙ ap (λ (r : Rest). r.later) c.skip_folds.ensures.same ∙ c.loop-self.invariant

pub loop-self-preserved : goal.loop-self-preserved
loop-self-preserved c =
    let s = c.skip_folds.new.self in
    ap (λ (r : Rest). r.later) (sym (past_byte s.place s.rest.now (search (rules, arith, nat_tests))) ∙ c.skip_folds.ensures.same) ∙ c.loop-self.invariant
