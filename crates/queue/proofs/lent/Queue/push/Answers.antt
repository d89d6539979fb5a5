use Rattle.std.proofs.Common.{drop, sym, ap, ◌∙◌, rules}
use Rattle.std.proofs.lemmas.List.{drop-drop}
use Rattle.queue.specs.Lent.{Holding}
use Rattle.queue.proofs.lent.Queue.push.Goals as goal

pub returns : goal.returns
returns g c =
    let q = c.self.inside in
    let spare = c.push.ensures.beyond ∙ sym (drop-drop 1 q.used q.slots.now) ∙ ap (λ (h : Holding g.row.T.Denot). drop 1 h.spare) c.self.view_is in
    record {
      entries = search rules;
      count = search rules;
      places = search rules;
      spare = spare;
    }
