-- The check does not find it: what the closure answers for each line, by the library's lemma of `find`.
use Rattle.std.proofs.Common.{rules, tests, not, refl}
use Rattle.std.proofs.lemmas.Iterator.Consumers.{YieldsList-from_first}
use Rattle.std.proofs.lemmas.Iterator.Search.{find_from_yields_List}
use Rattle.lines.specs.View.{line_of}
use Rattle.vevent.specs.Questions.{lists_days}
use Rattle.vevent.proofs.questions.first_failing.Goals as goal

pub returns : goal.returns
returns c =
    let found = find_from_yields_List {v = line_of} (λ l. not (lists_days l.text)) _ _ _ c.find.ensures.ran (YieldsList-from_first _ (λ s. s) _ refl) (λ x b q k. search (rules, tests)) in
    search (rules, tests)
