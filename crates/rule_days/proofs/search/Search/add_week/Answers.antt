-- Without these the check leaves the goals open: they cite lemmas of ours.
use Rattle.std.proofs.Common.{◌≡◌, ℕ, ◌+◌, ◌-◌, ◌%◌, Bool, true, cond, ◌&&◌, ◌||◌, eqb, ltb, leb, sym, ap, ◌∙◌, arith}
use Rattle.std.proofs.lemmas.Bool.{and_from, le-leb, lt-ltb}
use Rattle.rules.specs.Parts.{no_items}
use Rattle.rules.specs.Meaning.{by_day, by_month, weekday_passes, date_passes, date_of, week_gives}
use Rattle.rule_months.proofs.Tests.{below_next}
use Rattle.rule_months.proofs.Added.{adds_both, adds_same}
use Rattle.rule_days.proofs.search.Search.add_week.Goals as goal

pub loop-day-preserved : goal.loop-day-preserved
loop-day-preserved g c =
    let a = g.C.Sheets.meaning c.args.self.now.calendar.now in
    let r = c.args.self.now.rule.now in
    let b = c.args.first in
    let d = c.loop-day.day in
    let low = c.loop-day.auto.day in
    let w : ℕ → Bool = week_gives a r c.args.self.now.start b in
    let on : (leb b d && ltb d (b + 7)) ≡ true = and_from (leb b d) (ltb d (b + 7)) (le-leb b d (omega arith)) (lt-ltb d (b + 7) (omega arith)) in
    let keeps : c.week_keeps.result ≡ w d =
    c.week_keeps.ensures
    ∙ sym (ap (λ (x : Bool). x && (cond (no_items (by_day r)) (eqb (d % 7) (c.args.self.now.start % 7)) (weekday_passes r d) && (no_items (by_month r) || date_passes a r (date_of a d)))) on) in
    adds_same _ _ (d - b + 1) (d + 1 - b) _ _ (omega arith)
    (λ n. ap (λ (x : Bool). (ltb n d && w n) || (x && eqb n d)) keeps ∙ below_next w n d)
    (adds_both _ _ _ (d - b) 1 _ _ c.loop-day.invariant c.add_if.ensures)
