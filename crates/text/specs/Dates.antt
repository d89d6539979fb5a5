-- The day that a text names: eight digits that are a real date.
use Rattle.std.specs.Prelude.{ℕ, cond, List, length, Some, None, Option, ◌==◌}
use Rattle.std.specs.Result.{result_ok}
use Rattle.days.specs.Digits.{date_read}

abbrev pub day_in : List ℕ → Option ℕ
day_in bs = result_ok (date_read bs)

-- a text of eight bytes
abbrev pub eight_only : List ℕ → Option (List ℕ)
eight_only bs = cond (length bs == 8) (Some bs) None
