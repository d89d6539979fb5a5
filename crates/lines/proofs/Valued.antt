-- Whether the parameter that a search for VALUE found is w.
-- It stays: it goes by whether there is one, in the search and in the answer at once, which the check does not.
use Rattle.std.proofs.Common.{◌≡◌, ℕ, Bool, false, List, Some, None, Option, MatchOption, codes, ap, ◌∙◌}
use Rattle.std.specs.List.{find}
use Rattle.std.specs.Option.{option_map}
use Rattle.text.specs.Letters.{same}
use Rattle.lines.specs.Property.{is_named, value_is}

is_it : List ℕ → Option (List ℕ) → Bool
is_it w o = elim o [ Some p ↦ same w p | None ↦ false ]

pub found_is : {X : Type 0} {P : X → Type 0} (left : X → List ℕ) (w : List ℕ) (ps : List (List ℕ)) (o : Option X) (r : Bool)
    → option_map left o ≡ find (is_named (codes "VALUE")) ps → MatchOption o (r ≡ false) P → ((x : X) → P x → r ≡ same w (left x)) → r ≡ value_is w ps
unfolding is_it
found_is left w ps None r e m h = m ∙ ap (is_it w) e
found_is left w ps (Some x) r e m h = h x m ∙ ap (is_it w) e
