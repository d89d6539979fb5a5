-- The check does not find it: the totals of what the results say are those of the results.
use Rattle.std.proofs.Common.{◌++◌, sym, ap, ◌∙◌, vec_items}
use Rattle.listing.proofs.Judged.{same_totals}
use Rattle.listing.proofs.files.body.Goals as goal

pub returns : goal.returns
returns g c =
    let text = vec_items c.in_ok-text.text in
    (text, c.in_ok-text.ensures, c.in_ok-extend_from_slice.ensures.items ∙ ap (λ t. text ++ t) (c.as_bytes.ensures.value ∙ c.in_ok-totals.ensures ∙ sym (same_totals c.args.verdicts.now)))
