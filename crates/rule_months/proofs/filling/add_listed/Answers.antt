use Rattle.std.proofs.Common.{◌+◌, Bool, ◌&&◌, take, sym, ap, ◌∙◌, arith}
use Rattle.rules.specs.Parts.{some_of}
use Rattle.rules.specs.Meaning.{weekday_passes, value_gives}
use Rattle.std.proofs.Math.Bool.{and-or_distrib_left}
use Rattle.std.proofs.lemmas.List.Folds.{list_any_more}
use Rattle.rule_months.proofs.Added.{adds_both, adds_same}
use Rattle.rule_months.proofs.filling.add_listed.Goals as goal

pub loop-value-preserved : goal.loop-value-preserved
loop-value-preserved c =
    let r = c.args.rule.now in
    let xs = c.args.list.now in
    let i = c.loop-value.value-index in
    adds_same _ _ (i + 1) (i + 1) _ _ (omega arith)
    (λ n.
    sym (and-or_distrib_left (weekday_passes r n) (some_of (value_gives r.parts.skip c.args.month n) (take i xs)) _)
    ∙ ap (λ (b : Bool). weekday_passes r n && b) (sym (list_any_more (value_gives r.parts.skip c.args.month n) xs i _ c.loop-value-test.true)))
    (adds_both _ _ _ i 1 _ _ c.loop-value.invariant c.add_value.ensures)
