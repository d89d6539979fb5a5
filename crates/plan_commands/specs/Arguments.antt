-- The arguments of a command on a plan.
use Rattle.std.specs.Prelude.{ℕ, cond, List, [], ◌∷◌, Some, None, Option, Ok, Err, codes, Result, nat_le}
use Rattle.std.specs.Option.{ok_or}
use Rattle.std.specs.Str.{bytes_eq}
use Rattle.days.specs.Digits.{date_read}
use Rattle.commands.specs.Numbers.{number_read}
use Rattle.plan_commands.specs.declared.command.Draws.{Draws}
use Rattle.plan_commands.specs.declared.command.Draws.TheVariants.{Times, All}
use Rattle.plan_commands.specs.declared.command.Sizes.{Sizes}
use Rattle.plan_commands.specs.declared.complaint.PlanComplaint.{PlanComplaint}
use Rattle.plan_commands.specs.declared.complaint.PlanComplaint.TheVariants.{OpenWords, BadDate, BadSize, BadCount, BadBytes}

-- what is made of a value, where there is one
abbrev pub with : {T U : Type 0} → Result T PlanComplaint → (T → Result U PlanComplaint) → Result U PlanComplaint
with (Ok x) f = f x
with (Err e) f = Err e

-- a day by its date of eight digits
abbrev pub date_of : List ℕ → Result ℕ PlanComplaint
date_of word = elim (date_read word) [ Ok n ↦ Ok n | Err fault ↦ Err (BadDate fault) ]

-- the first and the last day of a window
abbrev pub window_read : List ℕ → List ℕ → Result (ℕ × ℕ) PlanComplaint
window_read first last = with (date_of first) (λ a. with (date_of last) (λ b. Ok (a, b)))

abbrev pub size_read : List ℕ → Result ℕ PlanComplaint
size_read word = ok_or (number_read 9999 word) BadSize

abbrev pub sizes_read : List ℕ → List ℕ → List ℕ → Result Sizes PlanComplaint
sizes_read series faults queue =
    with (size_read series) (λ s. with (size_read faults) (λ f. with (size_read queue) (λ q. Ok (record { series = s; faults = f; queue = q }))))

-- a window without sizes has tables of the usual ones
abbrev pub usual : Sizes
usual = record { series = 999; faults = 999; queue = 999 }

abbrev pub usual_read : List ℕ → List ℕ → Result ((ℕ × ℕ) × Sizes) PlanComplaint
usual_read first last = with (window_read first last) (λ w. Ok (w, usual))

abbrev pub sized_read : List ℕ → List ℕ → List ℕ → List ℕ → List ℕ → Result ((ℕ × ℕ) × Sizes) PlanComplaint
sized_read first last series faults queue = with (window_read first last) (λ w. with (sizes_read series faults queue) (λ s. Ok (w, s)))

-- a window with sizes or without
abbrev pub opening_read : List (List ℕ) → Result ((ℕ × ℕ) × Sizes) PlanComplaint
opening_read (first ∷ last ∷ []) = usual_read first last
opening_read (first ∷ last ∷ series ∷ faults ∷ queue ∷ []) = sized_read first last series faults queue
opening_read _ = Err OpenWords

-- the bytes of a text buffer
abbrev pub bytes_read : List ℕ → Result ℕ PlanComplaint
bytes_read word = ok_or (number_read 1000000 word) BadBytes

-- a number of draws is at least one
abbrev pub times : Option ℕ → Result Draws PlanComplaint
times (Some n) = cond (nat_le 1 n) (Ok (Times n)) (Err BadCount)
times None = Err BadCount

abbrev pub draws_read : List ℕ → Result Draws PlanComplaint
draws_read word = cond (bytes_eq word (codes "all")) (Ok All) (times (number_read 1000000 word))
