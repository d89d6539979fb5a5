-- Marks and drawn lines as text.
use Rattle.std.specs.Prelude.{◌≡◌, ℕ, ◌%◌, true, false, List, ◌++◌, Ok, codes}
use Rattle.days.specs.declared.weekday.Weekday.{Weekday}
use Rattle.days.specs.Numbers.{in_range, remainder, letters}
use Rattle.days.specs.Digits.{date_read}
use Rattle.calendar.specs.Printing.{padded}
use Rattle.series.specs.declared.record.Series.{Series}
use Rattle.owed.specs.declared.line.Line.{Line}
use Rattle.listing.specs.Texts.{line_end}
use Rattle.answers.specs.Titles.{title_text, title_of}

-- the text is the eight digits that name a day of the range, or question marks for another day
pub record Digits (day : ℕ) (text : List ℕ) : Type 0 where
  pub name : in_range day ≡ true → date_read text ≡ Ok day
  pub unknown : in_range day ≡ false → text ≡ codes "????????"

-- the text is the line of a mark: its day, and the number of its series
pub record MarkText (mark : Line) (text : List ℕ) : Type 0 where
  pub day : List ℕ
  pub digits : Digits mark.day day
  pub says : text ≡ codes "mark " ++ (day ++ (codes " " ++ (padded 3 mark.series ++ line_end)))

-- a weekday and the number of a series, each after a blank
abbrev pub weekday_text : Weekday → ℕ → List ℕ
weekday_text weekday number = codes " " ++ (letters weekday ++ (codes " " ++ padded 3 number))

-- the text is a drawn line: its day and weekday, and the number of its series with the title in a table
pub record DrawnText (table : List Series) (line : Line) (text : List ℕ) : Type 0 where
  pub day : List ℕ
  pub digits : Digits line.day day
  pub weekday : Weekday
  pub falls : remainder weekday ≡ line.day % 7
  pub says : text ≡ day ++ (weekday_text weekday line.series ++ (title_text (title_of table line.series) ++ line_end))
