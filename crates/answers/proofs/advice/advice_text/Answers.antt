-- The check finds it too; where it is written out, a wrong text is refused without a search.
use Rattle.std.proofs.Common.{refl}
use Rattle.answers.proofs.advice.advice_text.Goals as goal

pub returns : goal.returns
returns c =
    rw (c.in_ok-extend_from_slice-2.ensures.items, c.in_ok-extend_from_slice.ensures.items, c.new-text.ensures.items)
    (rw (c.as_bytes.ensures.value, c.in_ok-fault_words.ensures) refl)
