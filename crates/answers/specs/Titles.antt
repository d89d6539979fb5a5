-- Titles as a console shows them.
use Rattle.std.specs.Prelude.{ℕ, zero, suc, cond, ◌||◌, List, [], ◌++◌, map, Some, None, Option, codes, slice_get, nat_lt, nat_eq}
use Rattle.series.specs.declared.record.Series.{Series}

-- a byte: a control byte is shown as a question mark
abbrev pub shown : ℕ → ℕ
shown byte = cond (nat_lt byte 32 || nat_eq byte 127) 63 byte

-- a title after a blank, if there is one
abbrev pub title_text : Option (List ℕ) → List ℕ
title_text (Some title) = codes " " ++ map shown title
title_text None = []

-- the title that is kept at a place of a table, if the table has the place
abbrev pub title_at : Option Series → Option (List ℕ)
title_at (Some series) = series.title
title_at None = None

-- the title of the series of this number, from 1
abbrev pub title_of : List Series → ℕ → Option (List ℕ)
title_of table zero = None
title_of table (suc place) = title_at (slice_get table place)
