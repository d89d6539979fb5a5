-- The check does not find it: what the closure answers for each piece, by the library's lemma of `all`.
use Rattle.std.proofs.Common.{rules, tests}
use Rattle.std.proofs.lemmas.Iterator.Consumers.{YieldsList-from_first}
use Rattle.std.proofs.lemmas.Iterator.Search.{all_from_yields_List}
use Rattle.std.specs.Option.{is_some}
use Rattle.text.specs.Pieces.{ahead}
use Rattle.vevent.specs.Lists.{day_ranged}
use Rattle.vevent.proofs.lists.is_day_list.Goals as goal

pub returns : goal.returns
returns g c =
    all_from_yields_List (λ t. is_some (day_ranged t)) _ _ _ c.all.ensures.ran
    (YieldsList-from_first _ (ahead g.B.Bytes.left) _ c.of.ensures) (λ x b q k. search (rules, tests))
