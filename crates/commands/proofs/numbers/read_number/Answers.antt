use Rattle.std.proofs.Common.{rules, ◌∙◌, ap, sym}
use Rattle.commands.proofs.Digits.{rest_read, whole_read, within}
use Rattle.commands.proofs.Folded.{read_all}
use Rattle.commands.proofs.numbers.read_number.Goals as goal

pub returns-clause-reads : goal.returns-clause-reads
returns-clause-reads c =
    let read = read_all _ _ c.args.most _ (λ n x v h k. search rules) _ _ _ c.try_fold.ensures.ran ∙ ap (rest_read c.args.most 0) c.iter.ensures.rest in
    read ∙ whole_read c.args.most c.args.word.now (sym c.is_empty.ensures ∙ c.if-is_empty.false)

pub returns-clause-bound : goal.returns-clause-bound
returns-clause-bound c =
    let read = read_all _ _ c.args.most _ (λ n x v h k. search rules) _ _ _ c.try_fold.ensures.ran ∙ ap (rest_read c.args.most 0) c.iter.ensures.rest in
    within c.args.most c.args.word.now _ read
