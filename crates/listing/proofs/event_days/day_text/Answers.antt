-- The check does not find that the digits are there, nor the parts of the text.
use Rattle.std.proofs.Common.{[], ◌∷◌, refl, append_assoc, subst}
use Rattle.days.specs.Numbers.{letters}
use Rattle.days.specs.Digits.{Written}
use Rattle.listing.proofs.Digits.{not_missing}
use Rattle.listing.proofs.event_days.day_text.Goals as goal

pub returns-in_default : goal.returns-in_default
returns-in_default c = absurd (not_missing c.args.day c.requires (subst (Written c.args.day) c.in_default.is c.write_date.ensures))

pub returns : goal.returns
returns c =
    record {
      digits = c.in-Some.digits;
      reads = (c.in-Some.ensures.reads c.in-Some.digits refl).1;
      weekday = c.of.result;
      falls = c.of.ensures;
      says =
          rw (c.in_ok-extend_from_slice.ensures.items, c.in_ok-push.ensures.items, c.in_ok-text.ensures.items, c.as_bytes.ensures.value, c.letters.ensures)
          (append_assoc c.in-Some.digits (32 ∷ []) (letters c.of.result));
    }
