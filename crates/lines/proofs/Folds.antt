-- What is left from a place on: past a fold, past a byte, and at a line's end.
-- They stay: each goes by the first bytes of the list, and the check takes no list apart.
use Rattle.std.proofs.Common.{◌≡◌, ℕ, ◌+◌, ◌≤◌, Bool, true, false, ◌&&◌, not, ◌||◌, eqb, List, [], ◌∷◌, length, get_or, drop, sym, refl, ap, ◌∙◌, arith, length-drop}
use Rattle.std.specs.List.{between}
use Rattle.std.proofs.lemmas.Slice.{between_to_end}
use Rattle.std.proofs.lemmas.Bool.{cond-true, cond-false}
use Rattle.lines.specs.Lines.{crlf, blank, onto, ended, split, lines, folds}
use Rattle.lines.specs.Ended.{proper, well_ended}

-- what is left from the k-th byte on
abbrev tail : ℕ → List ℕ → List ℕ
tail k xs = between k (length xs) xs

to_end : (k : ℕ) (xs : List ℕ) → tail k xs ≡ drop k xs
to_end k xs = between_to_end xs k (length xs) (omega arith)

pub shorter : (k : ℕ) (xs : List ℕ) → length (tail k xs) ≤ length xs
shorter k xs = rw (to_end k xs) (simp length-drop (omega arith))

-- CR LF stands here
pub record Ends (xs : List ℕ) : Type 0 where
  pub room : 2 ≤ length xs
  pub cr : get_or xs 0 0 ≡ 13
  pub lf : get_or xs 1 0 ≡ 10

-- a byte stands here, and CR LF does not
pub record Goes (xs : List ℕ) : Type 0 where
  pub room : 1 ≤ length xs
  pub not_ended : 2 ≤ length xs → crlf (get_or xs 0 0) (get_or xs 1 0) ≡ false

ends_crlf : (a b : ℕ) (xs : List ℕ) → Ends (a ∷ b ∷ xs) → crlf a b ≡ true
ends_crlf a b xs h = ap (λ x. crlf x b) h.cr ∙ ap (crlf 13) h.lf

pub past_fold : (p : ℕ) (xs : List ℕ) → Ends xs → 3 ≤ length xs → blank (get_or xs 2 0) ≡ true → split (p + 1) (tail 3 xs) ≡ split p xs
past_fold p [] h l e = absurd (omega arith)
past_fold p (a ∷ []) h l e = absurd (omega arith)
past_fold p (a ∷ b ∷ []) h l e = absurd (omega arith)
past_fold p (a ∷ b ∷ c ∷ xs) h l e =
    ap (split (p + 1)) (to_end 3 (a ∷ b ∷ c ∷ xs)) ∙ sym (cond-true (crlf a b) _ _ (ends_crlf a b (c ∷ xs) h) ∙ cond-true (blank c) _ _ e)

pub past_byte : (p : ℕ) (xs : List ℕ) → Goes xs → split p xs ≡ onto (get_or xs 0 0) (split p (tail 1 xs))
past_byte p [] h = absurd (omega (arith, h.room))
past_byte p (a ∷ []) h = refl
past_byte p (a ∷ b ∷ []) h = cond-false (crlf a b) _ _ (h.not_ended (omega arith)) ∙ ap (λ t. onto a (split p t)) (sym (to_end 1 (a ∷ b ∷ [])))
past_byte p (a ∷ b ∷ c ∷ xs) h = cond-false (crlf a b) _ _ (h.not_ended (omega arith)) ∙ ap (λ t. onto a (split p t)) (sym (to_end 1 (a ∷ b ∷ c ∷ xs)))

pub past_end : (p : ℕ) (xs : List ℕ) → Ends xs → folds xs ≡ false → split p xs ≡ ended (lines (p + 1) (tail 2 xs))
past_end p [] h f = absurd (omega (arith, h.room))
past_end p (a ∷ []) h f = absurd (omega (arith, h.room))
past_end p (a ∷ b ∷ []) h f = cond-true (crlf a b) _ _ (ends_crlf a b [] h)
past_end p (a ∷ b ∷ c ∷ xs) h f =
    let e = ends_crlf a b (c ∷ xs) h in
    let g : blank c ≡ false = sym (ap (λ t. t && blank c) e) ∙ f in
    cond-true (crlf a b) _ _ e ∙ cond-false (blank c) _ _ g ∙ ap (λ t. ended (lines (p + 1) t)) (sym (to_end 2 (a ∷ b ∷ c ∷ xs)))

-- how a file's lines end, from a place on
pub from_start : (xs : List ℕ) → proper false xs ≡ well_ended xs
from_start [] = refl
from_start (a ∷ []) = refl
from_start (a ∷ b ∷ xs) = refl

pub ended_here : (s : Bool) (xs : List ℕ) → Ends xs → proper true (tail 2 xs) ≡ proper s xs
ended_here s [] h = absurd (omega (arith, h.room))
ended_here s (a ∷ []) h = absurd (omega (arith, h.room))
ended_here s (a ∷ b ∷ xs) h = ap (proper true) (to_end 2 (a ∷ b ∷ xs)) ∙ sym (cond-true (crlf a b) _ _ (ends_crlf a b xs h))

pub plain_here : (s : Bool) (xs : List ℕ) → Goes xs → (eqb (get_or xs 0 0) 13 || eqb (get_or xs 0 0) 10) ≡ false → proper false (tail 1 xs) ≡ proper s xs
plain_here s [] h f = absurd (omega (arith, h.room))
plain_here s (a ∷ []) h f = refl
plain_here s (a ∷ b ∷ xs) h f =
    ap (proper false) (to_end 1 (a ∷ b ∷ xs)) ∙ sym (cond-false (crlf a b) _ _ (h.not_ended (omega arith)) ∙ ap (λ t. not t && proper false (b ∷ xs)) f)
