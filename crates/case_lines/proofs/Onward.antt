-- One more byte of those that a text stands for.
use Rattle.std.proofs.Common.{◌≡◌, ℕ, List, [], ◌∷◌, ◌++◌, Some, None, Option, sym, ap, ◌∙◌}
use lib.Seq.{append_snoc}
use Rattle.std.specs.Option.{option_map}
use Rattle.case_lines.specs.Escapes.{plain, onto}

moved : (done : List ℕ) (b : ℕ) (rest all : Option (List ℕ)) → option_map (λ l. done ++ l) (onto (Some b) rest) ≡ all → option_map (λ l. (done ++ b ∷ []) ++ l) rest ≡ all
moved done b (Some bs) all h = ap Some (append_snoc done b bs) ∙ h
moved done b None all h = h

pub next_byte : (done : List ℕ) (b : ℕ) (left rest : List ℕ) (all : Option (List ℕ)) (more : List ℕ) → plain left ≡ onto (Some b) (plain rest) → more ≡ done ++ b ∷ [] → option_map (λ l. done ++ l) (plain left) ≡ all → option_map (λ l. more ++ l) (plain rest) ≡ all
next_byte done b left rest all more first e so_far =
    ap (λ m. option_map (λ l. m ++ l) (plain rest)) e ∙ moved done b (plain rest) all (ap (option_map (λ l. done ++ l)) (sym first) ∙ so_far)
