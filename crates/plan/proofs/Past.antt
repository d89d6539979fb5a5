-- The places past those in use, from one call to the next.
use Rattle.std.proofs.Common.{◌≡◌, drop, refl, ap, ◌∙◌, arith}
use Rattle.queue.proofs.Fronts.{past_later}
use Rattle.owed.specs.declared.line.Line.{Line}
use Rattle.runs.specs.Plans.{with_mark}
use Rattle.plan.specs.Plans.{Lent, Untouched}

-- a call after others
pub untouched_chain : (r s t : Lent) → Untouched r s → Untouched s t → Untouched r t
untouched_chain r s t u v = record {
  more_series = omega (arith, u.more_series, v.more_series);
  more_faults = omega (arith, u.more_faults, v.more_faults);
  series = v.series ∙ past_later s.series r.series r.series s.plan.standing.series t.plan.standing.series v.more_series u.series refl;
  faults = v.faults ∙ past_later s.faults r.faults r.faults s.plan.standing.faults t.plan.standing.faults v.more_faults u.faults refl;
  queue = v.queue ∙ past_later s.queue r.queue r.queue s.plan.standing.series t.plan.standing.series v.more_series u.queue refl;
}

-- the mark moved, and of the tables the queue alone was written
pub untouched_moved : (s t : Lent) (mark : Line) → t.plan.standing ≡ with_mark s.plan.standing mark → t.series ≡ s.series → t.faults ≡ s.faults
    → drop s.plan.standing.series t.queue ≡ drop s.plan.standing.series s.queue → Untouched s t
untouched_moved s t mark moved series faults queue =
    let same_series : t.plan.standing.series ≡ s.plan.standing.series = ap (λ p. p.series) moved in
    let same_faults : t.plan.standing.faults ≡ s.plan.standing.faults = ap (λ p. p.faults) moved in
    record {
      more_series = omega (arith, same_series);
      more_faults = omega (arith, same_faults);
      series = λ i. drop t.plan.standing.series (series i);
      faults = λ i. drop t.plan.standing.faults (faults i);
      queue = past_later t.queue s.queue s.queue s.plan.standing.series t.plan.standing.series (omega (arith, same_series)) queue refl;
    }

pub untouched_itself : (s : Lent) → Untouched s s
untouched_itself s = untouched_moved s s s.plan.standing.mark refl refl refl refl
