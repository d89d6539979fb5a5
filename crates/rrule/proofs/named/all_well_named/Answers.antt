-- The check does not find this: it knows no chain over Pieces by what they yield.
use Rattle.std.proofs.Common.{rules, tests}
use Rattle.std.proofs.lemmas.Iterator.Consumers.{YieldsList-from_first}
use Rattle.std.proofs.lemmas.Iterator.Search.{all_from_yields_List}
use Rattle.text.specs.Pieces.{ahead}
use Rattle.rrule.specs.Named.{well_named}
use Rattle.rrule.proofs.named.all_well_named.Goals as goal

pub returns : goal.returns
returns g c =
    all_from_yields_List well_named _ _ _ c.all.ensures.ran
    (YieldsList-from_first _ (ahead g.B.Bytes.left) _ c.of.ensures) (λ x b q k. search (rules, tests))
