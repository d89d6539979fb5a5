-- The check finds these in the other calendars, but not here.
use Rattle.std.proofs.Common.{sym, ◌∙◌, arith}
use Rattle.std.proofs.lemmas.Map.Keys.{le_from_is_le}
use Rattle.calendars.specs.Hebrew.{hebrew_year}
use Rattle.calendars.specs.Laws.{hebrew_years, hebrew_laws}
use Rattle.calendars.specs.Years.{as_reckoned, silent}
use Rattle.calendars.proofs.hebrew.HebrewSheets.sheet.Goals as goal

pub returns-then-contains : goal.returns-then-contains
returns-then-contains c =
    let h = c.if-contains.ensures.cases in
    let from = le_from_is_le _ c.args.year h.0 in
    let to = le_from_is_le c.args.year _ h.1 in
    c.year_sheet.ensures ∙ sym (as_reckoned hebrew_year c.args.year (hebrew_laws.answers c.args.year (omega (arith, from)) (omega (arith, to))))

pub returns-else-contains : goal.returns-else-contains
returns-else-contains c =
    let h = c.if-contains.ensures.value in
    c.empty.ensures ∙ sym (silent _ _ hebrew_years c.args.year (λ l g. grind (arith, h)))
