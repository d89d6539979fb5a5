-- What the steps of a script ask of the plan.
use Rattle.std.specs.Prelude.{List, [], ◌∷◌, replicate}
use Rattle.runs.specs.Runs.{Request, load_of, seek_to, a_draw}
use Rattle.season.specs.declared.script.Step.{Step}
use Rattle.season.specs.declared.script.Step.TheVariants.{Load, Seek, Draw}

-- a file is loaded, a day sought, or one line drawn after another
abbrev pub asked : Step → List Request
asked (Load file) = load_of file.items ∷ []
asked (Seek day) = seek_to day ∷ []
asked (Draw times) = replicate times a_draw
