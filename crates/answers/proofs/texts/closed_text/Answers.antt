-- The check finds it too; where it is written out, a wrong text is refused without a search.
use Rattle.answers.proofs.texts.closed_text.Goals as goal

pub returns : goal.returns
returns c = c.format.ensures.ok
