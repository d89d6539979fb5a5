-- What a cursor has yet to read.
use Rattle.std.specs.Prelude.{ℕ, List}
use Rattle.lines.specs.declared.cursor.Cursor.{Cursor}
use Rattle.lines.specs.Lines.{Line, Rest, split, lines}

-- of the line at hand, and the lines after it
abbrev pub rest : Cursor → Rest
rest c = split c.place c.rest.now

abbrev pub text : Cursor → List ℕ
text c = (rest c).text

-- of a cursor at a line's start: the lines from here on
abbrev pub view : Cursor → List Line
view c = lines c.place c.rest.now

abbrev pub line_of : Cursor → Line
line_of c = record { place = c.place; text = (rest c).text }
