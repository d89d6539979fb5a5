-- What the code answers, as a record with no proofs in it.
use Rattle.std.specs.Prelude.{Ok, Err, Result}
use Rattle.refusals.specs.declared.asked.RuleQuestion.{RuleQuestion}
use Rattle.rrule.specs.declared.rule.RuleText.{RuleText}
use Rattle.rrule.specs.Rule.{Said}

abbrev pub said_by : RuleText → Said
said_by t = record { parts = t.rule.parts; limit = t.limit; scale = t.scale }

abbrev pub told : Result RuleText RuleQuestion → Result Said RuleQuestion
told (Ok t) = Ok (said_by t)
told (Err fault) = Err fault
