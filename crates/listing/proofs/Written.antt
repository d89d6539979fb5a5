-- Lines written one after another.
use Rattle.std.proofs.Common.{◌≡◌, ℕ, zero, suc, ◌+◌, ◌<◌, List, [], ◌∷◌, ◌++◌, length, take, get_or, refl, sym, ap, ◌∙◌, append_assoc, append-nil, add-one, not-suc-le-zero, le_of_suc-le-suc, arith}
use Rattle.std.proofs.Math.Seq.{take-suc}
use Rattle.listing.specs.Lines.{Lines, numbered}

-- one more at the end
pub one_more : {X : Type 0} (Says : X → List ℕ → Type 0) (xs : List X) (text : List ℕ) (x : X) (line : List ℕ) → Lines Says xs text → Says x line → Lines Says (xs ++ x ∷ []) (text ++ line)
one_more Says [] text x line so_far says = (line, [], says, refl, ap (λ t. t ++ line) so_far ∙ sym (append-nil line))
one_more Says (y ∷ xs) text x line so_far says =
    let first = so_far.0 in
    let rest = so_far.1 in
    (first, rest ++ line, so_far.2, one_more Says xs rest x line so_far.3 says, ap (λ t. t ++ line) so_far.4 ∙ append_assoc first rest line)

-- the next of a list that lies in a slice
pub next_line : {X : Type 0} (Says : X → List ℕ → Type 0) (xs : List X) (i : ℕ) (d : X) (text line more : List ℕ) → i < length xs → Lines Says (take i xs) text → Says (get_or xs i d) line → more ≡ text ++ line → Lines Says (take (i + 1) xs) more
next_line Says xs i d text line more h so_far says e =
    let next : take (i + 1) xs ≡ take i xs ++ get_or xs i d ∷ [] = rw (add-one i) (take-suc xs i d h) in
    rw (next, e) (one_more Says (take i xs) text (get_or xs i d) line so_far says)

-- ── members with their numbers ──

pub length_numbered : {X : Type 0} (n : ℕ) (xs : List X) → length (numbered n xs) ≡ length xs
length_numbered n [] = refl
length_numbered n (x ∷ xs) = ap suc (length_numbered (n + 1) xs)

pub numbered_at : {X : Type 0} (n : ℕ) (xs : List X) (i : ℕ) (d : X) (e : ℕ × X) → i < length xs → get_or (numbered n xs) i e ≡ (n + i, get_or xs i d)
numbered_at n [] i d e h = absurd (not-suc-le-zero h)
numbered_at {X} n (x ∷ xs) zero d e h = let z : n ≡ n + 0 = omega arith in ap {B = ℕ × X} (λ k. (k, x)) z
numbered_at {X} n (x ∷ xs) (suc i) d e h =
    let s : n + 1 + i ≡ n + suc i = omega arith in
    numbered_at (n + 1) xs i d e (le_of_suc-le-suc h) ∙ ap {B = ℕ × X} (λ k. (k, get_or xs i d)) s
