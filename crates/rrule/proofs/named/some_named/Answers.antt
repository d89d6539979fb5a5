-- The check does not find this: it knows no chain over Pieces by what they yield.
use Rattle.std.proofs.Common.{rules, tests}
use Rattle.std.proofs.lemmas.Iterator.Consumers.{YieldsList-from_first}
use Rattle.std.proofs.lemmas.Iterator.Search.{any_from_yields_List}
use Rattle.text.specs.Letters.{same}
use Rattle.text.specs.Pieces.{ahead}
use Rattle.rrule.specs.Named.{name}
use Rattle.rrule.proofs.named.some_named.Goals as goal

pub returns : goal.returns
returns g c =
    any_from_yields_List (λ part. same (g.N.Bytes.left c.args.name) (name part)) _ _ _ c.any.ensures.ran
    (YieldsList-from_first _ (ahead g.B.Bytes.left) _ c.of.ensures) (λ x b q k. search (rules, tests))
