-- The check finds it too; where it is written out, a wrong text is refused without a search.
use Rattle.answers.proofs.texts.answer_text.Goals as goal

pub returns-in_ok-format-in-NoMore : goal.returns-in_ok-format-in-NoMore
returns-in_ok-format-in-NoMore c = rw (c.in-NoMore.is, c.into_bytes-in-NoMore.ensures.value) c.in_ok-format-in-NoMore.ensures.ok
