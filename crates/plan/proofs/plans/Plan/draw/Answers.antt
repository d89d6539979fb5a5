-- The check does not find these: the plan's own tables, by a lemma of Owning, and how a run goes on, by lemmas of Leading.
use Rattle.std.proofs.Common.{◌≡◌, take, sym, refl, ap, arith, subst, ◌∙◌, rules}
use Rattle.queue.proofs.Fronts.{past_later}
use Rattle.heads.specs.Heads.{sets_of, Heads}
use Rattle.refusals.specs.declared.asked.PlanQuestion.TheVariants.{FullTables}
use Rattle.plan.specs.Plans.{Held, lent, Own}
use Rattle.plan.proofs.Owning.{own_moved, unwrapped}
use Rattle.plan.proofs.Past.{untouched_moved}
use Rattle.plan.proofs.Leading.{drawn_on, draw_refused}
use Rattle.plan.proofs.plans.Plan.draw.Goals as goal

pub returns-clause-own : goal.returns-clause-own
returns-clause-own g c =
    let shelf = g.S.Shelf.held c.args.shelf.now in
    let tables = c.args.tables.now in
    let p = c.self.inside in
    let r = c.draw_first-drawn in
    λ own.
    let mine : Own shelf (lent _ tables) = subst (λ (v : Held). Own shelf (lent v tables)) (sym c.self.view_is) own in
    let heads = subst (λ m. Heads p.first p.last (sets_of shelf (take p.series tables.series.now)) m r.new.queue r.result.queued 0) (sym (c.unwrap_or-self-inside.ensures ∙ unwrapped r.result.line p.mark)) (r.ensures.heads p.first mine.ready mine.heads) in
    own_moved shelf (lent _ tables) _ c.unwrap_or-self-inside.result refl r.ensures.series heads mine

pub returns-clause-leads : goal.returns-clause-leads
returns-clause-leads g c =
    let r = c.draw_first-drawn in
    drawn_on (g.S.Shelf.held c.args.shelf.now) r.result.line (lent c.args.self.now c.args.tables.now) _ (search rules) (search rules) r.ensures.series refl r.auto.queue (search rules) (returns-clause-own g c)

pub returns-then-not-fits-clause-leads : goal.returns-then-not-fits-clause-leads
returns-then-not-fits-clause-leads g c = draw_refused (g.S.Shelf.held c.args.shelf.now) FullTables (lent c.args.self.now c.args.tables.now) (search rules)

pub returns-clause-untouched : goal.returns-clause-untouched
returns-clause-untouched g c =
    let series : c.self.inside.series ≡ c.args.self.now.standing.series = ap (λ (v : Held). v.standing.series) c.self.view_is in
    let old = c.args.tables.now.queue.now in
    let r = c.draw_first-drawn in
    untouched_moved (lent c.args.self.now c.args.tables.now) _ c.unwrap_or-self-inside.result (search rules) r.ensures.series refl
    (past_later r.new.queue old old c.self.inside.queued c.args.self.now.standing.series (omega (arith, c.self.invariant.3, series)) r.ensures.rest.1 refl)
