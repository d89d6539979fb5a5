-- A component inside another: what is left after it is where the outer one goes on.
-- They stay: each is an induction, which the check does not make.
use Rattle.std.proofs.Common.{◌≡◌, ℕ, zero, suc, ◌+◌, ◌-◌, ◌<◌, true, false, cond, List, [], ◌∷◌, ◌++◌, length, Some, None, Option, sym, refl, ap, ◌∙◌, arith}
use Rattle.text.specs.Letters.{same}
use Rattle.components.specs.Nest.{Kind, Begin, End, Other, walk, opened}

-- go on with what is left, if nothing was refused
abbrev pub after : Option (List Kind) → (List Kind → Option (List Kind)) → Option (List Kind)
after (Some ks) go = go ks
after None go = None

frame : (ks : List Kind) (n m : ℕ) (x : List ℕ) (s : List (List ℕ)) (w : List ℕ) (t : List (List ℕ)) → m ≡ suc (n + length s) → walk n x (s ++ (w ∷ t)) ks ≡ after (walk n x s ks) (λ rest. walk m w t rest)
frame [] n m x s w t e = refl
frame (Begin y ∷ ks) zero m x s w t e = refl
frame (Begin y ∷ ks) (suc n) m x s w t e = frame ks n m y (x ∷ s) w t (omega arith)
frame (End y ∷ ks) n m x [] w t e =
    let k : suc n ≡ m = omega arith in
    elim (same y x) as (λ b. cond b (walk (suc n) w t ks) None ≡ after (cond b (Some ks) None) (λ rest. walk m w t rest))
    [ true ↦ ap (λ j. walk j w t ks) k | false ↦ refl ]
frame (End y ∷ ks) n m x (v ∷ s) w t e =
    let ih = frame ks (suc n) m v s w t (omega arith) in
    elim (same y x) as (λ b. cond b (walk (suc n) v (s ++ (w ∷ t)) ks) None ≡ after (cond b (walk (suc n) v s ks) None) (λ rest. walk m w t rest))
    [ true ↦ ih | false ↦ refl ]
frame (Other ∷ ks) n m x s w t e = frame ks n m x s w t e

inner : (n : ℕ) (x y : List ℕ) (ks : List Kind) → walk n x [] (Begin y ∷ ks) ≡ after (opened n y ks) (λ rest. walk n x [] rest)
inner zero x y ks = refl
inner (suc n) x y ks = frame ks n (suc n) y [] x [] (omega arith)

-- a list that begins with a BEGIN: the body goes on where the component ends
pub on_begin : (k : Kind) (ks : List Kind) (n : ℕ) (x y : List ℕ) (m : Option (List Kind)) → k ≡ Begin y → m ≡ opened n y ks → walk n x [] (k ∷ ks) ≡ after m (λ rest. walk n x [] rest)
on_begin k ks n x y m e o = ap (λ j. walk n x [] (j ∷ ks)) e ∙ inner n x y ks ∙ ap (λ j. after j (λ rest. walk n x [] rest)) (sym o)

pub opens : (d e : ℕ) (x y : List ℕ) (ks : List Kind) → e ≡ d + 1 → e < 8 → y ≡ x → walk (7 - e) y [] ks ≡ opened (7 - d) x ks
opens d e x y ks s h n = let k : 7 - d ≡ suc (7 - e) = omega arith in ap (λ z. walk (7 - e) z [] ks) n ∙ sym (ap (λ m. opened m x ks) k)
