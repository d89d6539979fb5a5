use Rattle.std.proofs.Common.{◌≡◌, ℕ, suc, ◌+◌, ◌-◌, ◌*◌, Bool, ◌&&◌, ◌||◌, ap, ◌∙◌, arith}
use Rattle.rules.specs.Meaning.{some_below, month_at}
use Rattle.rule_months.specs.Filling.{in_month, taken}
use Rattle.std.proofs.Math.Bool.{or_comm}
use Rattle.rule_months.proofs.Added.{adds_both, adds_same}
use Rattle.rule_months.proofs.years.YearlyRule.add_months.Goals as goal

pub loop-place-preserved : goal.loop-place-preserved
loop-place-preserved c =
    let r = c.args.self.now.started.rule.now in
    let s = c.args.year.now.sheet.now in
    let p = c.loop-place.place in
    let j = p - 1 in
    let f : ℕ → ℕ → Bool = λ n k. taken r c.args.self.now.own s k && in_month r c.args.self.now.started.day (month_at s k) n in
    let here : p ≡ j + 1 = omega arith in
    let next : suc j ≡ p + 1 - 1 = omega arith in
    adds_same _ _ (62 * j + 62) (62 * (p + 1 - 1)) _ _ (omega arith)
    (λ n. or_comm (some_below (λ i. f n (i + 1)) j) (f n p) ∙ (ap (λ k. f n k || some_below (λ i. f n (i + 1)) j) here ∙ ap (some_below (λ i. f n (i + 1))) next))
    (adds_both _ _ _ (62 * j) 62 _ _ c.loop-place.invariant c.add_taken.ensures)

pub returns : goal.returns
returns c =
    let r = c.args.self.now.started.rule.now in
    let s = c.args.year.now.sheet.now in
    let p = c.loop-place.place in
    let end : p - 1 ≡ s.months = omega arith in
    let most = c.args.year.now.usable.months in
    let f : ℕ → ℕ → Bool = λ n i. taken r c.args.self.now.own s (i + 1) && in_month r c.args.self.now.started.day (month_at s (i + 1)) n in
    adds_same _ _ (62 * (p - 1)) 806 _ _ (omega arith) (λ n. ap (some_below (f n)) end) c.loop-place.invariant
