-- The check does not find this: that the lines read byte by byte are the joined ones takes an induction.
use Rattle.lines.proofs.Joining.{the_lines}
use Rattle.lines.proofs.cursor.Cursor.new.Goals as goal

pub returns : goal.returns
returns c = the_lines c.args.file.now
