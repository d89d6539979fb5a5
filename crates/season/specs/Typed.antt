-- Lines as people type them: words between white space of any kind.
use Rattle.std.specs.Prelude.{◌≡◌, ℕ, ⊤, List, map}
use Rattle.std.specs.Borrow.{Bor}
use Rattle.std.specs.Iterator.{DrainsIf}
use Rattle.std.specs.Str.Iter.{split_whitespace_rest, split_whitespace_steps}
use Rattle.std.specs.declared.str.SplitWhitespace.{SplitWhitespace}

-- the words are what `split_whitespace` gives of the line
pub record WordsOf (line : List ℕ) (words : List (List ℕ)) : Type 0 where
  pub pieces : List (Bor (List ℕ))
  pub source : SplitWhitespace
  pub of_line : split_whitespace_rest source ≡ line
  pub all : DrainsIf split_whitespace_steps ⊤ source pieces
  pub each : words ≡ map (λ piece. piece.now) pieces
