-- The values of the parts.
use Rattle.std.specs.Prelude.{ℕ, Bool, cond, ◌&&◌, ◌||◌, List, length, Some, None, Ok, Err, Option, Result, ◌==◌, nat_le}
use Rattle.std.specs.Char.{is_ascii_alphanumeric}
use Rattle.calendar.specs.declared.sheet.MonthCode.{MonthCode}
use Rattle.days.specs.Digits.{date_read}
use Rattle.days.specs.declared.digits.DateFault.{DateFault}
use Rattle.rules.specs.Parts.{each_of}
use Rattle.rules.specs.declared.parts.ByDay.{ByDay}
use Rattle.rules.specs.declared.parts.Position.{Position}
use Rattle.rule_values.specs.declared.values.LastDay.{LastDay}
use Rattle.rule_values.specs.declared.values.ScaleName.{ScaleName}
use Rattle.rule_values.specs.Items.{month_code_read, month_day_read, by_day_read}
use Rattle.rule_values.specs.Lists.{list_read}

-- UNTIL: eight digits that are a real date
abbrev pub real_day : Result ℕ DateFault → Option LastDay
real_day (Ok n) = Some (record { day = n })
real_day (Err fault) = None

abbrev pub until_read : List ℕ → Option LastDay
until_read bs = real_day (date_read bs)

-- RSCALE: 1 to 24 letters, digits and hyphens
abbrev pub scale_byte : ℕ → Bool
scale_byte b = is_ascii_alphanumeric b || b == 45

abbrev pub scale_read : List ℕ → Option ScaleName
scale_read bs =
    cond (nat_le 1 (length bs) && (nat_le (length bs) 24 && each_of scale_byte bs))
    (Some (record { name = bs }))
    None

-- BYMONTH, BYMONTHDAY and BYDAY: lists of at most 16 months, 62 days of a month and 16 weekdays
abbrev pub months_read : List ℕ → Option (List MonthCode)
months_read bs = list_read 16 month_code_read bs

abbrev pub month_days_read : List ℕ → Option (List Position)
month_days_read bs = list_read 62 month_day_read bs

abbrev pub weekdays_read : List ℕ → Option (List ByDay)
weekdays_read bs = list_read 16 by_day_read bs
