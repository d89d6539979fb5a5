use Rattle.std.proofs.Common.{◌≡◌, ℕ, ◌≤◌, true, Option, sym, refl, ap, ◌∙◌, subst, arith, rules}
use Rattle.queue.specs.Lent.{Holding}
use Rattle.sources.specs.Sets.{Found}
use Rattle.rules.specs.Meaning.{gives, period_gives}
use Rattle.rule_days.specs.Onward.{reachable, the_date}
use Rattle.rule_days.proofs.Finding.{left_less, left_least, left_none, in_reach_placed, which_few, reached_next, over_found, last_found, day_found}
use Rattle.rule_days.proofs.search.Search.next_from.Given.{Over}
use Rattle.rule_days.proofs.search.Search.next_from.Goals as goal
use Rattle.rule_days.proofs.search.Search.next_from.Goals.{Else-not-in_reach}
use Rattle.rule_days.proofs.search.Search.next_from.Goals.at

-- the period is in reach
reached : (g : Over) (c : Else-not-in_reach g) → reachable (g.C.Sheets.meaning c.args.self.now.calendar.now) c.search.period ≡ true
reached g c = sym c.in_reach.ensures ∙ c.if-not-in_reach.false

-- so few periods have been passed
few : (g : Over) (c : Else-not-in_reach g) → c.search.passed ≤ 804000
few g c =
    let l = g.met.C.Sheets.lawful c.args.self.now.calendar.now in
    let w = which_few _ l c.args.self.now.rule.now c.args.self.now.start (the_date c.args.self.now.date) c.args.self.now.ranged c.args.self.now.dated c.args.low c.requires c.search.period c.search.invariant.2 (reached g c) in
    let p = c.search.invariant.3 in
    omega arith

pub add_period-requires-clause-placed : goal.add_period-requires-clause-placed
add_period-requires-clause-placed g c =
    let l = g.met.C.Sheets.lawful c.args.self.now.calendar.now in
    in_reach_placed _ l c.args.self.now.rule.now c.args.self.now.start (the_date c.args.self.now.date) c.args.self.now.ranged c.args.self.now.dated c.args.low c.requires c.search.period c.search.invariant.2 (reached g (at.add_period-requires-clause-placed g c).Else-not-in_reach)

pub loop-day-preserved : goal.loop-day-preserved
loop-day-preserved g c = (
  c.in-Some.ensures.places ∙ c.loop-day.invariant.0,
  left_less c.loop-day.queue c.pop.new.self c.in-Some.day _ c.args.low c.loop-day.invariant.1 c.in-Some.ensures c.if-day-low.false,
)

pub overflow_add-passed : goal.overflow_add-passed
overflow_add-passed g c = let p = few g (at.overflow_add-passed g c).Else-not-in_reach in search rules

pub search-smaller : goal.search-smaller
search-smaller g c = let p = few g (at.search-smaller g c).Else-not-in_reach in search rules

pub search-preserved : goal.search-preserved
search-preserved g c =
    let l = g.met.C.Sheets.lawful c.args.self.now.calendar.now in
    let x = c.search.invariant.2 in
    let p = c.search.invariant.3 in
    let next =
    reached_next _ l c.args.self.now.rule.now c.args.self.now.start (the_date c.args.self.now.date) c.args.self.now.ranged c.args.self.now.dated c.args.low c.requires c.search.period x
    (left_none c.loop-day.queue.entries _ c.args.low c.loop-day.invariant.1 c.in_default.ensures.0)
    c.in-Some-next_period.next
    (c.in-Some-next_period.ensures c.args.self.now.rule.now c.args.self.now.start (the_date c.args.self.now.date) c.args.low x.which c.args.self.now.ranged c.args.self.now.dated refl x.counts) in (
      ap (λ (q : Holding ℕ). q.entries) c.in_default.ensures.1 ∙ c.in_default.ensures.0,
      ap (λ (q : Holding ℕ). q.places) c.in_default.ensures.1 ∙ c.loop-day.invariant.0,
      next.0,
      omega (arith, next.1),
    )

pub returns-then-not-in_reach : goal.returns-then-not-in_reach
returns-then-not-in_reach g c =
    let l = g.met.C.Sheets.lawful c.args.self.now.calendar.now in
    over_found _ l c.args.self.now.rule.now c.args.self.now.start (the_date c.args.self.now.date) c.args.self.now.ranged c.args.self.now.dated c.args.low c.requires c.search.period c.search.invariant.2
    (sym c.in_reach.ensures ∙ c.if-not-in_reach.true)

pub returns-then-day-low : goal.returns-then-day-low
returns-then-day-low g c =
    let a = g.C.Sheets.meaning c.args.self.now.calendar.now in
    let l = g.met.C.Sheets.lawful c.args.self.now.calendar.now in
    let r = c.args.self.now.rule.now in
    let t = the_date c.args.self.now.date in
    let d = left_least c.loop-day.queue c.pop.new.self c.in-Some.day (period_gives a r c.args.self.now.start t c.search.period) c.args.low c.loop-day.invariant.1 c.in-Some.ensures in
    subst (λ (o : Option ℕ). Found (gives a r c.args.self.now.start) c.args.low o) (sym c.unless_after-found.ensures)
    (day_found a l r c.args.self.now.start t c.args.self.now.ranged c.args.self.now.dated c.args.low c.requires c.search.period c.search.invariant.2 c.in-Some.day d.0 c.if-day-low.true d.1)

pub returns-in_default-next_period : goal.returns-in_default-next_period
returns-in_default-next_period g c =
    let l = g.met.C.Sheets.lawful c.args.self.now.calendar.now in
    let x = c.search.invariant.2 in
    last_found _ l c.args.self.now.rule.now c.args.self.now.start (the_date c.args.self.now.date) c.args.self.now.ranged c.args.self.now.dated c.args.low c.requires c.search.period x
    (left_none c.loop-day.queue.entries _ c.args.low c.loop-day.invariant.1 c.in_default.ensures.0)
    (c.in_default-next_period.ensures c.args.self.now.rule.now c.args.self.now.start (the_date c.args.self.now.date) c.args.low x.which c.args.self.now.ranged c.args.self.now.dated refl x.counts)
