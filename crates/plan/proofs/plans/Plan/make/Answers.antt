-- The check does not find these: a seek as a step, which names no table.
use Rattle.std.proofs.Common.{sym, refl, subst}
use Rattle.runs.specs.declared.calls.Call.{Call}
use Rattle.runs.specs.declared.calls.Answer.TheVariants.{Sought, Refused}
use Rattle.runs.specs.declared.calls.Refusal.{Refusal}
use Rattle.runs.specs.Runs.{happened, seek_to, refused}
use Rattle.plan.specs.Plans.{Held, lent, LeadsOn, Untouched}
use Rattle.plan.proofs.Past.{untouched_moved, untouched_itself}
use Rattle.plan.proofs.plans.Plan.make.Goals as goal

pub returns-in-Ok-seek-clause-leads : goal.returns-in-Ok-seek-clause-leads
returns-in-Ok-seek-clause-leads g c =
    let shelf = g.S.Shelf.held c.args.shelf.now in
    subst (λ (call : Call). LeadsOn shelf (happened call (Sought c.in-Ok-seek.mark)) (lent c.args.self.now c.args.tables.now) (lent c.seek.new.self c.args.tables.now)) (sym c.in-Seek.is)
    (c.in-Ok-seek.ensures.leads shelf)

pub returns-in-Ok-seek-clause-untouched : goal.returns-in-Ok-seek-clause-untouched
returns-in-Ok-seek-clause-untouched g c = untouched_moved (lent c.args.self.now c.args.tables.now) _ c.in-Ok-seek.mark c.in-Ok-seek.ensures.moved.0 refl refl refl

pub returns-in-Err-seek-clause-leads : goal.returns-in-Err-seek-clause-leads
returns-in-Err-seek-clause-leads g c =
    let shelf = g.S.Shelf.held c.args.shelf.now in
    let s = lent c.args.self.now c.args.tables.now in
    let t = lent c.seek.new.self c.args.tables.now in
    subst (λ (call : Call). LeadsOn shelf (happened call (Refused c.into.result)) s t) (sym c.in-Seek.is)
    (subst (λ (r : Refusal). LeadsOn shelf (refused (seek_to c.in-Seek.day) r) s t) (sym c.into.ensures)
    (c.in-Err-seek.ensures.leads shelf))

pub returns-in-Err-seek-clause-untouched : goal.returns-in-Err-seek-clause-untouched
returns-in-Err-seek-clause-untouched g c =
    let s = lent c.args.self.now c.args.tables.now in
    subst (λ (v : Held). Untouched s (lent v c.args.tables.now)) (sym c.in-Err-seek.ensures.refused.1) (untouched_itself s)
