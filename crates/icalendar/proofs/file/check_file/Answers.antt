-- The check does not find these: the last question of four, and the size as a test.
use Rattle.std.proofs.Common.{◌≡◌, ℕ, Bool, true, false, cond, Some, None, length, refl, arith}
use Rattle.std.specs.Option.{ok_or}
use Rattle.std.proofs.lemmas.Bool.{le-leb}
use Rattle.std.proofs.lemmas.Bool.Decides.{nat_tests}
use Rattle.refusals.specs.declared.asked.FileQuestion.TheVariants.{Nesting}
use Rattle.icalendar.specs.Files.{unless_failed}
use Rattle.icalendar.proofs.file.check_file.Goals as goal

pub returns-then-file-gt-MOST_BYTES : goal.returns-then-file-gt-MOST_BYTES
returns-then-file-gt-MOST_BYTES c = grind (arith, nat_tests)

-- the last question, once the others are passed
last : (nests : Bool) (n : ℕ) → ok_or (cond nests (Some n) None) Nesting ≡ unless_failed (cond nests None (Some Nesting)) n
last true n = refl
last false n = refl

pub returns : goal.returns
returns c =
    let few = le-leb (length c.args.file.now) 60000 (omega arith) in
    rw (c.ok_or.ensures.value, c.count_events.ensures, few, ← c.if-not-well_ended.ensures, ← c.if-not-all_well_formed.ensures) (last _ _)
