-- The check does not find that the text reads as the day, and no other text.
use Rattle.std.proofs.Common.{◌≡◌, true, rules}
use Rattle.days.specs.Digits.{date_text}
use Rattle.days.specs.Numbers.{in_range}
use Rattle.days.proofs.Texts.{written_some}
use Rattle.days.proofs.digits.write_date.Goals as goal

pub returns : goal.returns
returns c =
    let ranged : in_range c.args.day ≡ true = search rules in
    let text : c.date_text.result ≡ date_text c.in_ok-year.year c.in_ok-year.month c.in_ok-year.day =
    search rules in
    written_some _ _ _ _ _ ranged c.in_ok-year.ensures text
