use Rattle.std.proofs.Common.{arith}
use Rattle.calendar.specs.Sheets.{no_code, leap_code}
use Rattle.calendar.specs.Codes.{plain_codes}
use Rattle.calendar.proofs.YearCodes.{inserted, length-plain_codes}
use Rattle.calendar.proofs.month_codes.year_codes.Goals as goal

pub returns-in-Some : goal.returns-in-Some
returns-in-Some c =
    let number = c.in-Some.number in
    let codes = plain_codes 1 c.args.last in
    let room = rw c.in-Some.is at c.requires.room in
    let n = length-plain_codes 1 c.args.last in
    simp (c.in-Some.is, c.from.ensures, c.leap.ensures, c.plain_codes-codes.ensures)
    (inserted no_code (leap_code number) codes number (omega arith) (omega arith) c.rotate_right.new.self
    (simp (c.from.ensures, c.plain_codes-codes.ensures) at c.rotate_right.ensures.after))
