-- The check does not follow the chain: its items are cursors, and its list is of lines.
use Rattle.std.proofs.Common.{◌∙◌, rules, tests}
use Rattle.std.proofs.lemmas.Iterator.Consumers.{YieldsList-from_first}
use Rattle.std.proofs.lemmas.Iterator.Search.{all_from_yields_List}
use Rattle.lines.specs.Machine.{well_formed}
use Rattle.lines.proofs.machine.all_well_formed.Goals as goal

pub returns : goal.returns
returns c =
    all_from_yields_List (λ l. well_formed l.text) _ _ c.all.result c.all.ensures.ran (YieldsList-from_first _ (λ s. s) _ (c.lines.ensures ∙ c.new.ensures)) (λ x b q k. search (rules, tests))
