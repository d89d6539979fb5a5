-- Values that are one of a few words. Letter case is ignored.
use Rattle.std.specs.Prelude.{ℕ, List, [], ◌∷◌, codes, Option}
use Rattle.std.specs.List.{find}
use Rattle.days.specs.declared.weekday.Weekday.{Weekday}
use Rattle.days.specs.declared.weekday.Weekday.TheVariants.{Sunday, Monday, Tuesday, Wednesday, Thursday, Friday, Saturday}
use Rattle.days.specs.Numbers.{letters}
use Rattle.rules.specs.declared.parts.Frequency.{Frequency}
use Rattle.rules.specs.declared.parts.Frequency.TheVariants.{Yearly, Monthly, Weekly, Daily}
use Rattle.rules.specs.declared.parts.Skip.{Skip}
use Rattle.rules.specs.declared.parts.Skip.TheVariants.{Omit, Backward, Forward}
use Rattle.text.specs.Letters.{same}

-- the first of the listed values whose word the text is
abbrev pub word_read : {A : Type 0} → (A → List ℕ) → List A → List ℕ → Option A
word_read word xs bs = find (λ x. same (word x) bs) xs

abbrev pub frequency_word : Frequency → List ℕ
frequency_word Yearly = codes "YEARLY"
frequency_word Monthly = codes "MONTHLY"
frequency_word Weekly = codes "WEEKLY"
frequency_word Daily = codes "DAILY"

abbrev pub skip_word : Skip → List ℕ
skip_word Omit = codes "OMIT"
skip_word Backward = codes "BACKWARD"
skip_word Forward = codes "FORWARD"

-- the values, each of which has a word
abbrev pub frequencies : List Frequency
frequencies = Yearly ∷ Monthly ∷ Weekly ∷ Daily ∷ []

abbrev pub skips : List Skip
skips = Omit ∷ Backward ∷ Forward ∷ []

abbrev pub weekdays : List Weekday
weekdays = Monday ∷ Tuesday ∷ Wednesday ∷ Thursday ∷ Friday ∷ Saturday ∷ Sunday ∷ []

abbrev pub frequency_read : List ℕ → Option Frequency
frequency_read bs = word_read frequency_word frequencies bs

abbrev pub skip_read : List ℕ → Option Skip
skip_read bs = word_read skip_word skips bs

abbrev pub weekday_read : List ℕ → Option Weekday
weekday_read bs = word_read letters weekdays bs
