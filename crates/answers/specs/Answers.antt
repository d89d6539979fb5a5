-- What a plan answers, as text.
use Rattle.std.specs.Prelude.{◌≡◌, ℕ, List, ◌++◌, codes, decimal}
use Rattle.series.specs.declared.record.Series.{Series}
use Rattle.runs.specs.declared.calls.Answer.{Answer}
use Rattle.runs.specs.declared.calls.Answer.TheVariants.{Loaded, Sought, Drawn, NoMore, Refused}
use Rattle.runs.specs.declared.calls.Made.{Made}
use Rattle.runs.specs.declared.calls.Refusal.{Refusal}
use Rattle.runs.specs.Numbers.{refusal_number, refusal_words}
use Rattle.listing.specs.Texts.{line_end}
use Rattle.answers.specs.Marks.{MarkText, DrawnText}

-- how many series and fault entries a file made
abbrev pub loaded_text : Made → List ℕ
loaded_text made = codes "loaded " ++ (decimal made.series ++ (codes " series " ++ (decimal made.faults ++ (codes " faults" ++ line_end))))

-- the number and the words of the question that a call fails
abbrev pub refusal_text : Refusal → List ℕ
refusal_text refusal = codes "refused " ++ (decimal (refusal_number refusal) ++ (codes " " ++ (refusal_words refusal ++ line_end)))

-- how many faults are due when a plan is closed
abbrev pub closed_text : ℕ → List ℕ
closed_text faults = codes "closed " ++ (decimal faults ++ (codes " faults due" ++ line_end))

-- the text is what is said of an answer, with the titles of the series in a table
abbrev pub AnswerText : List Series → Answer → List ℕ → Type 0
AnswerText table (Loaded made) text = text ≡ loaded_text made
AnswerText table (Sought mark) text = MarkText mark text
AnswerText table (Drawn line) text = DrawnText table line text
AnswerText table NoMore text = text ≡ codes "no more" ++ line_end
AnswerText table (Refused refusal) text = text ≡ refusal_text refusal
