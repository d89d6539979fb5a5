use Rattle.std.proofs.Common.{List, ℕ, map, rules}
use Rattle.std.specs.Borrow.{Bor}
use Rattle.std.proofs.lemmas.Iterator.{YieldsList-from_slice, YieldsList-from_map_by}
use Rattle.season.proofs.typed.read_command.Goals as goal

pub returns : goal.returns
returns c =
    let words = c.args.words.now in
    c.from_words.ensures (map (λ (w : Bor (List ℕ)). w.now) words)
    (YieldsList-from_map_by _ (λ (w : Bor (List ℕ)). w.now) (λ (w : Bor (List ℕ)). w.now) (YieldsList-from_slice words (cc)) c.map.ensures.closure (λ x r q k. search rules))
