use Rattle.std.proofs.Common.{◌≡◌, ◌+◌, ◌-◌, drop, ap, ◌∙◌, arith, rules}
use Rattle.std.proofs.lemmas.List.{drop-drop}
use Rattle.queue.specs.Lent.{Holding}
use Rattle.queue.proofs.lent.Queue.pop.Goals as goal

pub returns : goal.returns
returns g c =
    let q = c.self.inside in
    let ys = c.pop.new.slots in
    let next : q.used - 1 + 1 ≡ q.used = omega (arith, c.in_ok-least.ensures.popped.some) in
    let spare = drop-drop 1 (q.used - 1) ys ∙ ap (λ n. drop n ys) next ∙ c.pop.ensures.beyond ∙ ap (λ (h : Holding g.row.T.Denot). h.spare) c.self.view_is in
    record {
      least = search rules;
      others = search rules;
      count = search rules;
      places = search rules;
      spare = spare;
    }
