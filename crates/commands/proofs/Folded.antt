-- What `try_fold` makes of the digits of a word, one by one.
use Rattle.std.proofs.Common.{◌≡◌, ℕ, ◌≤◌, List, [], ◌∷◌, Some, None, Option, Iter, Bor, MatchOption, sym, ap, ◌∙◌, subst, arith}
use denote.Param.Members.{Mut, Called}
use Rattle.std.specs.ControlFlow.{continue_value}
use Rattle.std.specs.List.{FoldsTo}
use Rattle.std.specs.Iterator.{Yields, TryFoldTurn, TryFoldsItems}
use Rattle.std.specs.Slice.Iter.{iter_rest, iter_steps}
use Rattle.commands.specs.Numbers.{longer}
use Rattle.commands.proofs.Digits.{rest_read, digit_more, digit_last, all_read}

module _ {F : Type 0} (E : Type 0) (g : Mut F (ℕ × (Bor ℕ × Unit {0})) (Option ℕ)) (most : ℕ) (f : F)
    (adds : (n : ℕ) (x : Bor ℕ) (v : Option ℕ) (h : F) → Called g f (n, (x, tt)) v h → (v ≡ longer most n x.now) × (h ≡ f)) where
  abbrev Turns : F × ℕ → List (Bor ℕ) → F × ℕ → Type 0
  Turns = FoldsTo {P = F × ℕ} (TryFoldTurn {E = E} g (λ s r. s ≡ continue_value r))

  -- the digits that were taken
  folded : (xs : List (Bor ℕ)) (s t : Iter ℕ) (n a : ℕ) (h : F) → n ≤ most → Yields iter_steps s xs t → Turns (f, n) xs (h, a)
      → (h ≡ f) × (a ≤ most) × (rest_read most n (iter_rest s) ≡ rest_read most a (iter_rest t))
  folded [] s t n a h b y z =
      let same : n ≡ a = ap (λ (p : F × ℕ). p.1) z in
      (sym (ap (λ (p : F × ℕ). p.0) z), subst (λ k. k ≤ most) same b, ap (λ k. rest_read most k (iter_rest s)) same ∙ ap (λ l. rest_read most a (iter_rest l)) y)
  folded (x ∷ xs) s t n a h b y z =
      let one = adds n x z.1.0 z.0.0 z.1.1 in
      let more = digit_more most n z.0.1 x.now (iter_rest y.0) (sym one.0 ∙ z.1.2) in
      let rest = folded xs y.0 t z.0.1 a h more.1 y.2 (subst (λ (k : F). Turns (k, z.0.1) xs (h, a)) one.1 z.2) in
      (rest.0, rest.1, ap (rest_read most n) y.1 ∙ more.0 ∙ rest.2)

  -- and the end, or the byte that was not taken
  last : (o : Option (Bor ℕ)) (t u : Iter ℕ) (h : F) (a : ℕ) (r : Option ℕ) → a ≤ most → h ≡ f → iter_steps t o u
      → MatchOption o (r ≡ Some a) (λ x. (v : Option ℕ) × (k : F) × E × Called g h (a, (x, tt)) v k × (v ≡ None) × (r ≡ None))
      → r ≡ rest_read most a (iter_rest t)
  last None t u h a r b k y z = z ∙ sym (all_read most a (iter_rest t) b y.0)
  last (Some x) t u h a r b k y z =
      let one = adds a x z.0 z.1 (subst (λ (q : F). Called g q (a, (x, tt)) z.0 z.1) k z.3) in
      z.5 ∙ sym (ap (rest_read most a) y ∙ digit_last most a x.now (iter_rest u) b (sym one.0 ∙ z.4))

  pub read_all : (s u : Iter ℕ) (r : Option ℕ) → TryFoldsItems iter_steps g (λ s r. s ≡ continue_value r) (λ (e : E) r. r ≡ None) s f 0 r u → r ≡ rest_read most 0 (iter_rest s)
  read_all s u r z =
      let so_far = folded z.0 s z.4.0 0 z.3 z.2 (omega arith) z.4.1 z.5 in
      last z.1 z.4.0 u z.2 z.3 r so_far.1 so_far.0 z.4.2 z.6 ∙ sym so_far.2
