-- The check does not find it: the shelf's search answers by a relation and not by an equation.
use Rattle.std.proofs.Common.{◌≡◌, rules, ap, ◌∙◌}
use Rattle.icalendar.specs.Verdicts.{name_asked, place_named}
use Rattle.icalendar.proofs.Names.{placed}
use Rattle.icalendar.proofs.rule.calendar_asked.Goals as goal

pub returns : goal.returns
returns g c =
    let shelf = g.S.Shelf.held c.args.shelf.now in
    let asked : c.map_or.result.now ≡ name_asked c.args.scale = search rules in
    placed shelf _ _ c.find.ensures ∙ ap (place_named shelf) asked
