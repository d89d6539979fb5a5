-- The check does not find it: the record keeps the event, by a lemma of Accepting.
use Rattle.std.proofs.Common.{sym, refl, rules}
use Rattle.icalendar.proofs.Accepting.{accepted}
use Rattle.icalendar.proofs.verdict.read_event.Goals as goal

pub returns : goal.returns
returns g c =
    accepted (g.S.Shelf.held c.args.shelf.now) c.args.number c.args.event.now _ c.in_ok-start.start (sym c.in_ok-start.ensures.asked) c.in_ok-start.ensures.start c.in_ok-rule_of.ensures
    (λ u ruled last.
    record {
      file = refl;
      ruled = ruled;
      start = refl;
      rdates = c.days_of.ensures;
      exdates = c.days_of-2.ensures;
      title = c.title_of.ensures;
      ranged = search rules;
      ready = record { last = last };
    })
