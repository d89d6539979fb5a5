-- The value of the part of a name: what stands past the `=` of the first part of that name.
-- They stay: each is an induction over the parts or a step from one, which the check does not make.
use Rattle.std.proofs.Common.{◌≡◌, ℕ, Bool, true, false, cond, List, [], ◌∷◌, Some, None, Option, MatchOption, IfSome, sym, refl, ap, ◌∙◌, ⊎_elim, arith}
use Rattle.std.specs.List.{find, list_all}
use Rattle.std.specs.Option.{option_map}
use Rattle.std.proofs.lemmas.Bool.{and_parts, cases_Bool, false≢true}
use Rattle.text.specs.Letters.{same}
use Rattle.text.specs.Pieces.{has}
use Rattle.rrule.specs.Named.{name, value, value_of, is_known, well_named, none_twice, well_parted}

by_find : (n : List ℕ) (ps : List (List ℕ)) → option_map value (find (λ p. same n (name p)) ps) ≡ value_of n ps
by_find n [] = refl
by_find n (p ∷ ps) =
    elim (same n (name p)) as (λ b. option_map value (cond b (Some p) (find (λ q. same n (name q)) ps)) ≡ cond b (Some (value p)) (value_of n ps))
    [ true ↦ refl | false ↦ by_find n ps ]

-- what is found among elements that all pass a test passes it
passes : {X : Type 0} (f test : X → Bool) (xs : List X) (x : X) → list_all f xs ≡ true → Some x ≡ find test xs → f x ≡ true
passes f test [] x h e = absurd (let k : ◌≡◌ {A = Option _} (Some x) None = e in cc)
passes f test (y ∷ ys) x h e =
    let p = and_parts (f y) (list_all f ys) h in
    ⊎_elim (λ t. grind arith) (λ t. passes f test ys x p.1 (grind arith)) (cases_Bool (test y))

module _ (n word : List ℕ) (ps : List (List ℕ)) (part : Option (List ℕ)) (is : word ≡ n) (found : part ≡ find (λ p. same word (name p)) ps) where
  valued : option_map value part ≡ value_of n ps
  valued = ap (option_map value) found ∙ ap (λ w. option_map value (find (λ p. same w (name p)) ps)) is ∙ by_find n ps

  pub not_there : part ≡ None → None ≡ value_of n ps
  not_there e = sym (ap (option_map value) e) ∙ valued

  -- no part that is found lacks its `=`
  pub past_its_sign : {X : Type 0} (left : X → List ℕ) (p : List ℕ) (o : Option X) → well_parted ps ≡ true → part ≡ Some p
      → MatchOption o (has 61 p ≡ false) (λ _. has 61 p ≡ true) → IfSome o (λ rest. left rest ≡ value p) → option_map left o ≡ value_of n ps
  past_its_sign left p None w e f r =
      let known = passes well_named (λ p. same word (name p)) ps p (and_parts (list_all well_named ps) (none_twice ps) w).0 (sym e ∙ found) in
      absurd (false≢true (sym f ∙ (and_parts (has 61 p) (is_known (name p)) known).0))
  past_its_sign left p (Some rest) w e f r = ap Some r ∙ sym (ap (option_map value) e) ∙ valued
