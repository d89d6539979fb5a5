-- The check does not find these: the room that the questions leave, by a lemma of Asking, the plan's own tables, by one of Owning,
-- and how a run goes on, by lemmas of Leading.
use Rattle.std.proofs.Common.{◌≡◌, Err, Result, sym, subst, arith, rules}
use Rattle.runs.specs.declared.calls.Made.{Made}
use Rattle.runs.specs.declared.calls.Refusal.{Refusal}
use Rattle.plan.specs.Plans.{Held, lent, places, Own, LeadsOn, load_step}
use Rattle.plan.proofs.Asking.{load_room}
use Rattle.plan.proofs.Past.{untouched_itself}
use Rattle.plan.proofs.Leading.{load_refused, loaded_on, loaded_past}
use Rattle.plan.proofs.plans.Plan.load.Goals as goal

pub load-queued-requires : goal.load-queued-requires
load-queued-requires g c =
    let p = c.self.inside in
    let room = load_room (record { first = p.first; last = p.last; mark = p.mark; files = p.files; series = p.series; faults = p.faults }) (places c.args.tables.now) c.args.file.now (search rules) in
    record { series = room.series; faults = room.faults; queue = (room.queue.0, c.self.invariant.3) }

pub overflow_add-self-2 : goal.overflow_add-self-2
overflow_add-self-2 g c =
    let p = c.self.inside in
    let room = load_room (record { first = p.first; last = p.last; mark = p.mark; files = p.files; series = p.series; faults = p.faults }) (places c.args.tables.now) c.args.file.now (search rules) in
    omega (arith, room.series.1, c.load-queued.ensures.one_each)

pub overflow_add-self-3 : goal.overflow_add-self-3
overflow_add-self-3 g c =
    let p = c.self.inside in
    let room = load_room (record { first = p.first; last = p.last; mark = p.mark; files = p.files; series = p.series; faults = p.faults }) (places c.args.tables.now) c.args.file.now (search rules) in
    omega (arith, room.faults.1, c.load-queued.ensures.one_each)

pub invariant_of-self : goal.invariant_of-self
invariant_of-self g c =
    let p = c.self.inside in
    let room = load_room (record { first = p.first; last = p.last; mark = p.mark; files = p.files; series = p.series; faults = p.faults }) (places c.args.tables.now) c.args.file.now (search rules) in
    let each = c.load-queued.ensures.one_each in
    (omega (arith, room.files), omega (arith, room.series.1, each), omega (arith, room.faults.1, each), c.load-queued.ensures.rest.0)

pub returns-clause-own : goal.returns-clause-own
returns-clause-own g c =
    let shelf = g.S.Shelf.held c.args.shelf.now in
    let tables = c.args.tables.now in
    let p = c.self.inside in
    let r = c.load-queued in
    λ own.
    let mine : Own shelf (lent _ tables) = subst (λ (v : Held). Own shelf (lent v tables)) (sym c.self.view_is) own in
    let heads = r.ensures.heads p.first mine.ready mine.heads in
    record { ready = heads.0; heads = heads.1 }

pub returns-clause-leads : goal.returns-clause-leads
returns-clause-leads g c =
    let r = c.load-queued in
    let m = r.result.made in
    loaded_on (g.S.Shelf.held c.args.shelf.now) c.args.file.now m.series m.faults (lent c.args.self.now c.args.tables.now) _
    (record { passed = search rules; series_made = search rules; faults_made = search rules; plan = search rules; records = search rules; entered = search rules; rooms = search rules })
    (returns-clause-own g c)

pub returns-in_err-check_load-clause-leads : goal.returns-in_err-check_load-clause-leads
returns-in_err-check_load-clause-leads g c =
    let shelf = g.S.Shelf.held c.args.shelf.now in
    let s = lent c.args.self.now c.args.tables.now in
    let question = c.in_err-check_load.field-0.0 in
    let same : c.from_residual.result ≡ Err question = search rules in
    subst (λ (r : Result Made Refusal). LeadsOn shelf (load_step c.args.file.now r) s s) (sym same)
    (load_refused shelf c.args.file.now question s (search rules))

pub returns-clause-untouched : goal.returns-clause-untouched
returns-clause-untouched g c =
    let r = c.load-queued in
    let m = r.result.made in
    loaded_past (g.S.Shelf.held c.args.shelf.now) c.args.file.now m.series m.faults (lent c.args.self.now c.args.tables.now) _
    (record { passed = search rules; series_made = search rules; faults_made = search rules; plan = search rules; records = search rules; entered = search rules; rooms = search rules })
    r.ensures.rest.1

pub returns-in_err-check_load-clause-untouched : goal.returns-in_err-check_load-clause-untouched
returns-in_err-check_load-clause-untouched g c = untouched_itself (lent c.args.self.now c.args.tables.now)
