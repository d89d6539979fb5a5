-- The check finds it too; where it is written out, a wrong text is refused without a search.
use Rattle.std.proofs.Common.{◌++◌, codes, ap, append_assoc}
use Rattle.calendar.specs.Printing.{padded}
use Rattle.listing.specs.Texts.{line_end}
use Rattle.answers.proofs.marks.mark_text.Goals as goal

pub returns : goal.returns
returns c = record {
  day = c.eight_digits.result;
  digits = c.eight_digits.ensures;
  says =
      rw (c.in_ok-push.ensures.items, c.in_ok-extend_from_slice-2.ensures.items, c.in_ok-extend_from_slice.ensures.items)
      (rw (c.into_bytes-text.ensures.value, c.in_ok-format.ensures.ok, c.as_bytes.ensures.value, c.in_ok-number_text.ensures)
      (ap (λ rest. codes "mark " ++ rest) (append_assoc c.eight_digits.result (codes " " ++ padded 3 c.args.mark.series) line_end)));
}
