-- The questions asked of a rule in their order, and what its text says: the first that fails, or every field
-- of the rule.
use Rattle.std.specs.Prelude.{ℕ, Bool, false, cond, not, ◌&&◌, ◌||◌, List, [], ◌∷◌, is_some, Some, None, Ok, Err, Option, Result}
use Rattle.rules.specs.Parts.{some_of, numbered, takes_numbers, takes_month_days}
use Rattle.rules.specs.declared.parts.Frequency.{Frequency}
use Rattle.refusals.specs.declared.asked.RuleQuestion.{RuleQuestion}
use Rattle.refusals.specs.declared.asked.RuleQuestion.TheVariants.{NamedParts, ValueForms, HasFrequency, OneLimit, ScaledSkip, NoMonthDaysInWeeks, NumberedWeekdays}
use Rattle.rrule.specs.declared.values.Values.{Values}
use Rattle.rrule.specs.Named.{parts, well_parted}
use Rattle.rrule.specs.Rule.{values_of, well_valued, the_weekdays, Said, rule_of}

abbrev pub has_frequency : Values → Bool
has_frequency v = is_some v.frequency

abbrev pub one_limit : Values → Bool
one_limit v = not (is_some v.count && is_some v.until)

abbrev pub skip_with_scale : Values → Bool
skip_with_scale v = not (is_some v.skip) || is_some v.scale

-- FREQ is there and passes a test
abbrev pub by_frequency : (Frequency → Bool) → Option Frequency → Bool
by_frequency test None = false
by_frequency test (Some f) = test f

abbrev pub month_days_allowed : Values → Bool
month_days_allowed v = not (is_some v.month_days) || by_frequency takes_month_days v.frequency

abbrev pub numbers_allowed : Values → Bool
numbers_allowed v =
    not (some_of (λ d. numbered d.position) (the_weekdays v))
    || (by_frequency takes_numbers v.frequency && not (is_some v.month_days))

-- a question with what it asks of the parts of a rule
pub record Asked : Type 0 where
  pub question : RuleQuestion
  pub passes : List (List ℕ) → Bool

abbrev pub asked : List Asked
asked =
    record { question = NamedParts; passes = well_parted } ∷
    record { question = ValueForms; passes = well_valued } ∷
    record { question = HasFrequency; passes = λ ps. has_frequency (values_of ps) } ∷
    record { question = OneLimit; passes = λ ps. one_limit (values_of ps) } ∷
    record { question = ScaledSkip; passes = λ ps. skip_with_scale (values_of ps) } ∷
    record { question = NoMonthDaysInWeeks; passes = λ ps. month_days_allowed (values_of ps) } ∷
    record { question = NumberedWeekdays; passes = λ ps. numbers_allowed (values_of ps) } ∷ []

-- the first question that the parts of a rule fail
abbrev pub first_failed : List Asked → List (List ℕ) → Option RuleQuestion
first_failed [] ps = None
first_failed (q ∷ qs) ps = cond (q.passes ps) (first_failed qs ps) (Some q.question)

abbrev pub unless : {A : Type 0} → Option RuleQuestion → A → Result A RuleQuestion
unless (Some q) x = Err q
unless None x = Ok x

-- the first question that a text fails, or the rule
abbrev pub rule_read : List ℕ → Result Said RuleQuestion
rule_read bs = unless (first_failed asked (parts bs)) (rule_of (values_of (parts bs)))
