-- The check does not find it: a file that fails no question, by a lemma of Reading.
use Rattle.std.proofs.Common.{rules}
use Rattle.icalendar.proofs.Reading.{counted}
use Rattle.icalendar.proofs.read.read_file.Goals as goal

pub returns : goal.returns
returns g c = (counted c.args.file.now c.in_ok-check_file.field-0 c.in_ok-check_file.ensures, c.in_ok-read_events.ensures)

pub returns-in_err-read_events : goal.returns-in_err-read_events
returns-in_err-read_events g c = let few = counted c.args.file.now c.in_ok-check_file.field-0 c.in_ok-check_file.ensures in search rules
