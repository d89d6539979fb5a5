-- The number of the question of a refusal, and its words.
use Rattle.std.specs.Prelude.{ℕ, List}
use Rattle.refusals.specs.Numbers.{file_number, plan_number}
use Rattle.refusals.specs.Words.{file_words, plan_words}
use Rattle.runs.specs.declared.calls.Refusal.{Refusal}
use Rattle.runs.specs.declared.calls.Refusal.TheVariants.{File, Plan}

abbrev pub refusal_number : Refusal → ℕ
refusal_number (File question) = file_number question
refusal_number (Plan question) = plan_number question

abbrev pub refusal_words : Refusal → List ℕ
refusal_words (File question) = file_words question
refusal_words (Plan question) = plan_words question
