-- The check finds it too; where it is written out, a wrong text is refused without a search.
use Rattle.answers.proofs.advice.fault_words.Goals as goal

pub returns : goal.returns
returns c = rw c.advice-advice.ensures at c.format.ensures.ok
