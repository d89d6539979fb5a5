-- A list that takes what comes while it has room.
use Rattle.std.proofs.Common.{◌≡◌, ℕ, zero, suc, ◌+◌, ◌-◌, ◌<◌, ◌≤◌, List, [], ◌∷◌, ◌++◌, length, take, sym, refl, ap, ◌∙◌, append_assoc, append-nil, arith, length-append}
use lib.Seq.{append_snoc}
use Rattle.std.proofs.lemmas.List.{length_push}

-- the list, and of what comes as much as it has room for
abbrev pub filled : {X : Type 0} → ℕ → List X → List X → List X
filled n xs ys = xs ++ take (n - length xs) ys

-- one more, from the front of what comes
pub grown : {X : Type 0} (n : ℕ) (xs zs : List X) (x : X) (ys rest : List X) → length xs < n → zs ≡ xs ++ x ∷ [] → ys ≡ x ∷ rest → filled n zs rest ≡ filled n xs ys
grown n xs zs x ys rest room added e =
    let k : n - length xs ≡ suc (n - (length xs + 1)) = omega arith in
    ap (λ (ls : List _). filled n ls rest) added
    ∙ append_snoc xs x (take (n - length (xs ++ x ∷ [])) rest) ∙ ap (λ m. xs ++ (x ∷ take (n - m) rest)) (length_push xs x)
    ∙ sym (ap (λ (ls : List _). xs ++ take (n - length xs) ls) e ∙ ap (λ m. xs ++ take m (x ∷ rest)) k)

-- a list that is full takes nothing of what comes
pub full : {X : Type 0} (n : ℕ) (xs zs ys : List X) → n ≤ length xs → zs ≡ xs → zs ≡ filled n xs ys
full n xs zs ys h same = let k : n - length xs ≡ 0 = omega arith in same ∙ sym (ap (λ m. xs ++ take m ys) k ∙ append-nil xs)

take_twice : {X : Type 0} (k : ℕ) (a b : List X) → take k a ++ take (k - length (take k a)) b ≡ take k (a ++ b)
take_twice zero a b = refl
take_twice (suc k) [] b = ap (λ m. take m b) (let e : suc k - 0 ≡ suc k = omega arith in e)
take_twice (suc k) (x ∷ a) b =
    let e : suc k - suc (length (take k a)) ≡ k - length (take k a) = omega arith in
    ap (λ m. x ∷ (take k a ++ take m b)) e ∙ ap (λ (zs : List _). x ∷ zs) (take_twice k a b)

-- a first part of what comes, and then the other
pub twice : {X : Type 0} (n : ℕ) (xs a b : List X) → filled n (filled n xs a) b ≡ filled n xs (a ++ b)
twice n xs a b =
    let k : n - length (xs ++ take (n - length xs) a) ≡ (n - length xs) - length (take (n - length xs) a) = omega (arith, length-append xs (take (n - length xs) a)) in
    append_assoc xs (take (n - length xs) a) _ ∙ ap (λ m. xs ++ (take (n - length xs) a ++ take m b)) k ∙ ap (λ (zs : List _). xs ++ zs) (take_twice (n - length xs) a b)
