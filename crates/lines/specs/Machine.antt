-- The form of a line: a name, parameters and a colon outside quotes, read byte by byte.
use Rattle.std.specs.Prelude.{ℕ, Bool, true, false, cond, ◌&&◌, List, [], ◌∷◌, ◌==◌}
use Rattle.std.specs.List.{list_all}
use Rattle.lines.specs.Lines.{Line}
use Rattle.lines.specs.Property.{name_byte}
use Rattle.lines.specs.declared.machine.State.{State}
use Rattle.lines.specs.declared.machine.State.TheVariants.{Start, Name, ParamStart, ParamName, Text, Quoted}

-- where a byte leads: 34 is the quote, 58 the colon, 59 the semicolon, 61 the equals sign
abbrev pub step : State → ℕ → (State → Bool) → Bool
step Start b go = cond (name_byte b) (go Name) false
step Name b go = cond (name_byte b) (go Name) (cond (b == 59) (go ParamStart) (b == 58))
step ParamStart b go = cond (name_byte b) (go ParamName) false
step ParamName b go = cond (name_byte b) (go ParamName) (cond (b == 61) (go Text) false)
step Text b go = cond (b == 59) (go ParamStart) (cond (b == 58) true (cond (b == 34) (go Quoted) (go Text)))
step Quoted b go = cond (b == 34) (go Text) (go Quoted)

-- whether the bytes lead from s to the colon before the value
abbrev pub run : State → List ℕ → Bool
run s [] = false
run s (b ∷ bs) = step s b (λ t. run t bs)

abbrev pub well_formed : List ℕ → Bool
well_formed bs = run Start bs

-- each line
abbrev pub all_well : List Line → Bool
all_well ls = list_all (λ l. well_formed l.text) ls
