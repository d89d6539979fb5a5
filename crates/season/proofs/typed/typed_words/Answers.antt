-- The check does not find these: what is known of the words is said of their bytes.
use Rattle.std.proofs.Common.{List, ℕ, map, Ok, Err, IfOk, Result, ap, ◌∙◌, Bor}
use Rattle.season.proofs.typed.typed_words.Goals as goal

-- what follows from what holds of a value, holds of it
if_ok_then : {T E : Type 0} {P Q : T → Type 0} (r : Result T E) → ((x : T) → P x → Q x) → IfOk r P → IfOk r Q
if_ok_then (Ok x) f p = f x p
if_ok_then (Err e) f p = tt

pub returns : goal.returns
returns c =
    let ran = c.in_ok-words.ensures.ran in
    if_ok_then c.as_bytes.result (λ words same. record {
      pieces = ran.0;
      source = c.split_whitespace.result;
      of_line = c.split_whitespace.ensures.rest;
      all = ran.1;
      each = same ∙ ap (map (λ (w : Bor (List ℕ)). w.now)) (c.as_slice.ensures.value ∙ ran.2.0);
    }) c.as_bytes.ensures
