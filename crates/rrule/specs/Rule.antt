-- What the parts of a rule say together: every field of the rule.
use Rattle.std.specs.Prelude.{ℕ, Bool, ◌&&◌, List, [], Some, None, codes, Option}
use Rattle.std.specs.Option.{unwrap_or}
use Rattle.calendar.specs.declared.sheet.MonthCode.{MonthCode}
use Rattle.days.specs.declared.weekday.Weekday.TheVariants.{Monday}
use Rattle.rules.specs.declared.parts.Frequency.{Frequency}
use Rattle.rules.specs.declared.parts.Frequency.TheVariants.{Yearly}
use Rattle.rules.specs.declared.parts.ByDay.{ByDay}
use Rattle.rules.specs.declared.parts.Position.{Position}
use Rattle.rules.specs.declared.parts.Skip.TheVariants.{Omit}
use Rattle.rules.specs.declared.parts.Parts.{Parts}
use Rattle.rule_values.specs.declared.values.LastDay.{LastDay}
use Rattle.rule_values.specs.declared.values.ScaleName.{ScaleName}
use Rattle.sources.specs.declared.events.Limit.{Limit}
use Rattle.sources.specs.declared.events.Limit.TheVariants.{Endless, Until, Count}
use Rattle.rrule.specs.declared.values.Values.{Values}
use Rattle.rrule.specs.Named.{value_of, said, in_form}
use Rattle.rule_values.specs.Numbers.{number_to}
use Rattle.rule_values.specs.Values.{until_read, scale_read, months_read, month_days_read, weekdays_read}
use Rattle.rule_values.specs.Words.{frequency_read, skip_read, weekday_read}

-- what the parts say, each if it is there
abbrev pub values_of : List (List ℕ) → Values
values_of ps =
    record {
      frequency = said frequency_read (value_of (codes "FREQ") ps);
      interval = said (number_to 999) (value_of (codes "INTERVAL") ps);
      count = said (number_to 9999) (value_of (codes "COUNT") ps);
      until = said until_read (value_of (codes "UNTIL") ps);
      week_start = said weekday_read (value_of (codes "WKST") ps);
      scale = said scale_read (value_of (codes "RSCALE") ps);
      skip = said skip_read (value_of (codes "SKIP") ps);
      months = said months_read (value_of (codes "BYMONTH") ps);
      month_days = said month_days_read (value_of (codes "BYMONTHDAY") ps);
      weekdays = said weekdays_read (value_of (codes "BYDAY") ps);
    }

-- each value has the form that its name asks for
abbrev pub well_valued : List (List ℕ) → Bool
well_valued ps =
    in_form frequency_read (value_of (codes "FREQ") ps)
    && (in_form (number_to 999) (value_of (codes "INTERVAL") ps)
    && (in_form (number_to 9999) (value_of (codes "COUNT") ps)
    && (in_form until_read (value_of (codes "UNTIL") ps)
    && (in_form weekday_read (value_of (codes "WKST") ps)
    && (in_form scale_read (value_of (codes "RSCALE") ps)
    && (in_form skip_read (value_of (codes "SKIP") ps)
    && (in_form months_read (value_of (codes "BYMONTH") ps)
    && (in_form month_days_read (value_of (codes "BYMONTHDAY") ps)
    && in_form weekdays_read (value_of (codes "BYDAY") ps)))))))))

-- what a part says, or else what stands for it
abbrev pub the_interval : Option ℕ → ℕ
the_interval None = 1
the_interval (Some n) = n

abbrev pub the_months : Values → List MonthCode
the_months v = unwrap_or v.months []

abbrev pub the_month_days : Values → List Position
the_month_days v = unwrap_or v.month_days []

abbrev pub the_weekdays : Values → List ByDay
the_weekdays v = unwrap_or v.weekdays []

abbrev pub the_limit : Option ℕ → Option LastDay → Limit
the_limit (Some n) last = Count n
the_limit None (Some last) = Until last.day
the_limit None None = Endless

-- what a rule says: its parts, where it ends, and the calendar that it names
pub record Said : Type 0 where
  pub parts : Parts
  pub limit : Limit
  pub scale : Option ScaleName

-- the parts of a rule; FREQ is there in one that passes the questions
abbrev pub parts_said : Frequency → Values → Parts
parts_said f v =
    record {
      frequency = f;
      interval = the_interval v.interval;
      week_start = unwrap_or v.week_start Monday;
      skip = unwrap_or v.skip Omit;
      months = the_months v;
      month_days = the_month_days v;
      weekdays = the_weekdays v;
    }

abbrev pub rule_of : Values → Said
rule_of v = record { parts = parts_said (unwrap_or v.frequency Yearly) v; limit = the_limit v.count v.until; scale = v.scale }
