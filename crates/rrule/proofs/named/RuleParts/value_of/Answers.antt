-- The check does not find these: it knows no chain over Pieces by what they yield.
use Rattle.std.proofs.Common.{◌≡◌, ap, ◌∙◌, rules, tests}
use Rattle.std.specs.Option.{option_map}
use Rattle.std.proofs.lemmas.Iterator.Consumers.{YieldsList-from_first}
use Rattle.std.proofs.lemmas.Iterator.Search.{find_from_yields_List}
use Rattle.text.specs.Letters.{same}
use Rattle.text.specs.Pieces.{ahead}
use Rattle.rrule.specs.Named.{part_word, name, value_of}
use Rattle.rrule.proofs.Valued.{not_there, past_its_sign}
use Rattle.rrule.proofs.named.RuleParts.value_of.Goals as goal

pub returns-in_err-part : goal.returns-in_err-part
returns-in_err-part g c =
    let found = find_from_yields_List (λ part. same c.as_bytes-word.result.now (name part)) _ _ c.find.result c.find.ensures.ran
    (YieldsList-from_first _ (ahead g.B.Bytes.left) _ c.of.ensures) (λ x b q k. search (rules, tests)) in
    let w : c.as_bytes-word.result.now ≡ part_word c.args.name = cc in
    rw c.from_residual.ensures (not_there _ _ _ _ w found (ap (option_map _) c.in_err-part.was) ∙ ap (value_of (part_word c.args.name)) c.self.view_is)

pub returns : goal.returns
returns g c =
    let found = find_from_yields_List (λ part. same c.as_bytes-word.result.now (name part)) _ _ c.find.result c.find.ensures.ran
    (YieldsList-from_first _ (ahead g.B.Bytes.left) _ c.of.ensures) (λ x b q k. search (rules, tests)) in
    let w : c.as_bytes-word.result.now ≡ part_word c.args.name = cc in
    past_its_sign _ _ _ _ w found _ _ c.after.result c.self.invariant (ap (option_map _) c.in_ok-part.was) c.after.ensures.found c.after.ensures.rest
    ∙ ap (value_of (part_word c.args.name)) c.self.view_is
