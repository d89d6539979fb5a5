-- The check does not find that the array of thirteen codes is a list of plain codes, whose first are fewer of them.
use Rattle.std.proofs.Common.{◌≡◌, get_or, sym, ◌∙◌, arith, rules}
use Rattle.std.proofs.lemmas.List.{same_lists, get_or-map}
use Rattle.calendar.specs.Codes.{plain_codes}
use Rattle.calendar.specs.Laws.{counted}
use Rattle.calendar.specs.Sheets.{plain_code}
use Rattle.calendar.proofs.YearCodes.{plain_first}
use Rattle.calendar.proofs.month_codes.plain_codes.Goals as goal

pub returns : goal.returns
returns c =
    let codes = c.map-codes.ensures.items in
    let all : c.map-codes.result ≡ plain_codes 1 13 = sym (same_lists _ _ (sym codes.long) (λ k d h.
    let one = codes.at k 0 d h in
    let is : get_or c.map-codes.result k d ≡ plain_code (get_or (counted 1 13) k 0) = search rules in
    get_or-map plain_code (counted 1 13) k 0 d h ∙ sym is)) in
    simp (c.from.ensures, all)
    (plain_first c.args.last c.fill.new.self (omega arith) (simp (c.from.ensures, c.blank.ensures, all) at c.fill.ensures.after (λ y e. search rules)))
