-- Without these the check leaves the goals open: they cite lemmas of ours.
use Rattle.std.proofs.Common.{◌≡◌, ℕ, ◌+◌, ◌-◌, Bool, true, false, ◌&&◌, ◌||◌, eqb, ltb, leb, ap, ◌∙◌, ⊎_elim, arith}
use Rattle.std.proofs.lemmas.Bool.{and_left, and_right, and_parts, le-ltb, lt-ltb, ltb-true, leb-true, cases_Bool}
use Rattle.rules.specs.declared.checked.Rule.{Rule}
use Rattle.rules.specs.declared.period.Stretch.{Stretch}
use Rattle.rules.specs.Meaning.{inside, weekday_gives, weekdays_give, by_day}
use Rattle.rule_months.proofs.Tests.{below_next, limit_shown, some_shows}
use Rattle.rule_months.proofs.Added.{adds_none, adds_both, adds_same}
use Rattle.rule_months.proofs.filling.add_weekdays.Goals as goal

-- what BYDAY gives lies in the stretch
inside_of : (r : Rule) (m : Stretch) (n : ℕ) → weekdays_give r m n ≡ true → inside m n ≡ true
inside_of r m n = some_shows (weekday_gives m n) (inside m n) (λ b t. (and_parts (inside m n) _ t).0) (by_day r)

pub loop-day-init : goal.loop-day-init
loop-day-init c =
    let m = c.args.stretch in
    let r = c.args.rule.now in
    adds_none c.args.queue.now (m.from - m.from) _
    (λ n.
    ⊎_elim
    (λ (t : weekdays_give r m n ≡ true).
    let i = and_parts (leb m.from n) (ltb n (m.from + m.size)) (inside_of r m n t) in
    and_left (ltb n m.from) (weekdays_give r m n) (le-ltb n m.from (leb-true m.from n i.0)))
    (λ (t : weekdays_give r m n ≡ false). and_right (ltb n m.from) (weekdays_give r m n) t)
    (cases_Bool (weekdays_give r m n)))

pub loop-day-preserved : goal.loop-day-preserved
loop-day-preserved c =
    let m = c.args.stretch in
    let r = c.args.rule.now in
    let d = c.loop-day.day in
    let low = c.loop-day.auto.day in
    adds_same _ _ (d - m.from + 1) (d + 1 - m.from) _ _ (omega arith)
    (λ n.
    ap (λ (b : Bool). (ltb n d && weekdays_give r m n) || (b && eqb n d)) c.weekdays_give.ensures ∙ below_next (weekdays_give r m) n d)
    (adds_both _ _ _ (d - m.from) 1 _ _ c.loop-day.invariant c.add_if.ensures)

pub returns : goal.returns
returns c =
    let m = c.args.stretch in
    let r = c.args.rule.now in
    let d = c.loop-day.day in
    let high = c.loop-day.auto.day-end in
    adds_same _ _ (d - m.from) m.size _ _ (omega arith)
    (λ n.
    limit_shown (ltb n d) (weekdays_give r m n)
    (λ t.
    let i = and_parts (leb m.from n) (ltb n (m.from + m.size)) (inside_of r m n t) in
    let j = ltb-true n (m.from + m.size) i.1 in
    lt-ltb n d (omega arith)))
    c.loop-day.invariant
