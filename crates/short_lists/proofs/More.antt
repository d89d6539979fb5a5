-- One element more in a list that lies in an array.
use Rattle.std.proofs.Common.{◌≡◌, ℕ, suc, ◌+◌, ◌-◌, ◌<◌, List, [], ◌∷◌, ◌++◌, length, take, set, replicate, sym, ap, ◌∙◌, arith, length-set}
use lib.Seq.{append_snoc}
use Rattle.std.proofs.lemmas.List.{set_at, take_all, take-append-le, length_push}
use Rattle.short_lists.specs.Places.{Filled, places, used}

module _ {X : Type 0} (n : ℕ) (blank x : X) (at : List X) (len : ℕ) (h : Filled n blank at len) (room : len < n) where
  abbrev pub xs : List X
  xs = take len at

  next : places n blank xs ≡ xs ++ blank ∷ replicate (n - (length xs + 1)) blank
  next = ap (λ k. xs ++ replicate k blank) (let e : n - length xs ≡ suc (n - (length xs + 1)) = omega (arith, used h, room) in e)

  -- the array after the write
  written : set at len x ≡ places n blank (xs ++ x ∷ [])
  written =
      ap (λ (ys : List X). set ys len x) (sym h.blanks ∙ next)
      ∙ set_at xs blank (replicate (n - (length xs + 1)) blank) x len (used h)
      ∙ sym (append_snoc xs x (replicate (n - (length xs + 1)) blank))
      ∙ ap (λ k. (xs ++ x ∷ []) ++ replicate (n - k) blank) (sym (length_push xs x))

  more : length (xs ++ x ∷ []) ≡ len + 1
  more = length_push xs x ∙ ap (λ k. k + 1) (used h)

  pub pushed : take (len + 1) (set at len x) ≡ xs ++ x ∷ []
  pushed =
      ap (take (len + 1)) written
      ∙ take-append-le (len + 1) (xs ++ x ∷ []) _ (omega (arith, more))
      ∙ take_all (len + 1) (xs ++ x ∷ []) (omega (arith, more))

  pub one_more : Filled n blank (set at len x) (len + 1)
  one_more = record {
    within = omega (arith, room);
    size = length-set at len x ∙ h.size;
    blanks = ap (places n blank) pushed ∙ sym written;
  }
