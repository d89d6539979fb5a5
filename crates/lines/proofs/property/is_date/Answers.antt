-- The check does not follow the chain: its items are read through `left`.
use Rattle.std.proofs.Common.{false, codes, rules, tests}
use Rattle.std.proofs.lemmas.Iterator.Consumers.{YieldsList-from_first}
use Rattle.std.proofs.lemmas.Iterator.Search.{find_from_yields_List}
use Rattle.lines.specs.Property.{is_named, parameters}
use Rattle.lines.specs.View.{text}
use Rattle.lines.proofs.Valued.{found_is}
use Rattle.lines.proofs.property.is_date.Goals as goal

pub returns : goal.returns
returns c =
    let found = find_from_yields_List (is_named (codes "VALUE")) _ _ c.find.result c.find.ensures.ran
    (YieldsList-from_first _ (λ s. s) _ c.of.ensures) (λ x b q k. search (rules, tests)) in
    found_is _ (codes "VALUE=DATE") (parameters false (text c.args.line)) c.find.result c.is_some_and.result found c.is_some_and.ensures (λ x k. search rules)
