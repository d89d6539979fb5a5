use Rattle.std.proofs.Common.{rules, ap, sym, ◌∙◌}
use Rattle.std.proofs.lemmas.Iterator.Consumers.{YieldsList-from_filter}
use Rattle.std.proofs.lemmas.Iterator.Splits.{YieldsList-from_slice_split}
use borrow.Author.Tests.{tests}
use Rattle.commands.specs.Words.{blank}
use Rattle.commands.specs.Commands.{command_of}
use Rattle.commands.specs.declared.numbers.Numbers.TheVariants.{Digits}
use Rattle.commands.proofs.Lines.{not_empty, words_split}
use Rattle.commands.proofs.reading.read_command.Goals as goal

pub returns : goal.returns
returns c =
    let parts = YieldsList-from_slice_split _ blank c.args.line.now (cc) (cc) (cc) (λ x b q k. search (rules, tests)) in
    c.from_words.ensures _ (YieldsList-from_filter _ not_empty parts c.filter-words.ensures.closure (λ x b q k. search (rules, tests)))
    ∙ sym (ap (command_of Digits) (words_split c.args.line.now))
