-- The check does not find it: each day of the range has its digits.
use Rattle.std.proofs.Common.{refl, subst}
use Rattle.days.specs.Digits.{Written}
use Rattle.listing.proofs.Digits.{not_missing}
use Rattle.answers.proofs.marks.eight_digits.Goals as goal

pub returns-in-None : goal.returns-in-None
returns-in-None c =
    record {
      name = λ ranged. absurd (not_missing c.args.day ranged (subst (Written c.args.day) c.in-None.is c.write_date.ensures));
      unknown = λ outside. refl;
    }
