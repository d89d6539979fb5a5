-- Items that are put one after another at the end of a list.
-- They stay: the main one is an induction over the items, and the others are its steps.
use Rattle.std.proofs.Common.{◌≡◌, ℕ, suc, ◌+◌, ◌<◌, ◌≤◌, Bool, true, false, cond, ltb, leb, List, [], ◌∷◌, ◌++◌, length, Some, None, Option, sym, refl, ap, ◌∙◌, ⊎_elim, zero-add, arith}
use Rattle.std.proofs.lemmas.List.{append-nil, append_assoc, length-append}
use Rattle.std.proofs.lemmas.Bool.{cases_lt, cond-true, cond-false, lt-ltb, le-ltb, le-leb, lt-leb}
use Rattle.rule_values.specs.Lists.{in_front, all_read, at_most}

-- what is read after `xs`, as long as there are at most n
abbrev pub stored_after : {X A : Type 0} → (n : ℕ) → (X → Option A) → List A → List X → Option (List A)
stored_after n read xs [] = Some xs
stored_after n read xs (t ∷ ts) = cond (ltb (length xs) n) (elim (read t) [ None ↦ None | Some x ↦ stored_after n read (xs ++ x ∷ []) ts ]) None

-- items in front of those that are read
abbrev after : {A : Type 0} → List A → Option (List A) → Option (List A)
after xs None = None
after xs (Some ys) = Some (xs ++ ys)

after_more : {A : Type 0} (xs : List A) (x : A) (ys : Option (List A)) → after (xs ++ x ∷ []) ys ≡ after xs (in_front (Some x) ys)
after_more xs x None = refl
after_more xs x (Some ys) = ap Some (append_assoc xs (x ∷ []) ys)

-- what is read after `xs` stands behind them
abbrev Stands : {X A : Type 0} → (n : ℕ) → (X → Option A) → List X → List A → Type 0
Stands n read ts xs = stored_after n read xs ts ≡ cond (leb (length xs + length ts) n) (after xs (all_read read ts)) None

nothing : {A : Type 0} (b : Bool) → ◌≡◌ {A = Option (List A)} (cond b None None) None
nothing true = refl
nothing false = refl

step : {X A : Type 0} (n : ℕ) (read : X → Option A) (xs : List A) (ts : List X) (o : Option A) → ((x : A) → length xs < n → Stands n read ts (xs ++ x ∷ [])) →
    cond (ltb (length xs) n) (elim o [ None ↦ None | Some x ↦ stored_after n read (xs ++ x ∷ []) ts ]) None
    ≡ cond (leb (length xs + suc (length ts)) n) (after xs (in_front o (all_read read ts))) None
step n read xs ts None ih = nothing (ltb (length xs) n) ∙ sym (nothing (leb (length xs + suc (length ts)) n))
step n read xs ts (Some x) ih =
    ⊎_elim
    (λ room.
    let e : length (xs ++ x ∷ []) + length ts ≡ length xs + suc (length ts) = simp length-append (omega arith) in
    cond-true (ltb (length xs) n) _ _ (lt-ltb _ _ room)
    ∙ ih x room
    ∙ ap (λ m. cond (leb m n) (after (xs ++ x ∷ []) (all_read read ts)) None) e
    ∙ ap (λ ys. cond (leb (length xs + suc (length ts)) n) ys None) (after_more xs x (all_read read ts)))
    (λ full. cond-false (ltb (length xs) n) _ _ (le-ltb _ _ full) ∙ sym (cond-false (leb (length xs + suc (length ts)) n) _ None (lt-leb _ _ (omega arith))))
    (cases_lt (length xs) n)

stands : {X A : Type 0} (n : ℕ) (read : X → Option A) (ts : List X) (xs : List A) → length xs ≤ n → Stands n read ts xs
stands n read [] xs h = sym (cond-true (leb (length xs + 0) n) _ None (le-leb _ _ (omega arith)) ∙ ap Some (append-nil xs))
stands n read (t ∷ ts) xs h = step n read xs ts (read t) (λ x room. stands n read ts (xs ++ x ∷ []) (simp length-append (omega arith)))

none_before : {A : Type 0} (ys : Option (List A)) → after [] ys ≡ ys
none_before None = refl
none_before (Some ys) = refl

pub stored_all : {X A : Type 0} (n : ℕ) (read : X → Option A) (ts : List X) → stored_after n read [] ts ≡ cond (leb (length ts) n) (all_read read ts) None
stored_all n read ts =
    stands n read ts [] (omega arith)
    ∙ ap (λ m. cond (leb m n) (after [] (all_read read ts)) None) (zero-add (length ts))
    ∙ ap (λ ys. cond (leb (length ts) n) ys None) (none_before (all_read read ts))

every_byte : (bs : List ℕ) → all_read Some bs ≡ Some bs
every_byte [] = refl
every_byte (b ∷ bs) = ap (in_front (Some b)) (every_byte bs)

-- bytes that are stored as they are
pub stored_bytes : (n : ℕ) (bs : List ℕ) → stored_after n Some [] bs ≡ at_most n bs
stored_bytes n bs = stored_all n Some bs ∙ ap (λ ys. cond (leb (length bs) n) ys None) (every_byte bs)
