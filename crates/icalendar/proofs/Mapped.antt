-- What is known of a result before its error was mapped, and after a `?` handed it on.
use Rattle.std.proofs.Common.{◌≡◌, Ok, Err, Result, sym, refl, ap, ◌∙◌, subst}
use Rattle.std.specs.Result.{MatchResult, IsErr, IsErrAnd}

module _ {T E D : Type 0} (P : E → D → Type 0) where
  pub ok_before : (a : Result T E) (b : Result T D) (t : T) → MatchResult a (λ x. b ≡ Ok x) (λ e. IsErrAnd b (P e)) → b ≡ Ok t → a ≡ Ok t
  ok_before (Ok x) b t h e = let k : ◌≡◌ {A = Result T D} (Ok x) (Ok t) = sym h ∙ e in let i : x ≡ t = cc in ap Ok i
  ok_before (Err f) b t h e = absurd (subst (λ (r : Result T D). IsErrAnd r (P f)) e h)

  pub err_before : (a : Result T E) (b : Result T D) (g : D) → MatchResult a (λ x. b ≡ Ok x) (λ e. IsErrAnd b (P e)) → b ≡ Err g → (f : E) × (a ≡ Err f) × P f g
  err_before (Ok x) b g h e = let k : ◌≡◌ {A = Result T D} (Ok x) (Err g) = sym h ∙ e in cc
  err_before (Err f) b g h e = (f, refl, subst (λ (r : Result T D). IsErrAnd r (P f)) e h)

pub err_is : {T F : Type 0} (r : Result T F) (f : F) → IsErr r × IsErrAnd r (λ g. g ≡ f) → r ≡ Err f
err_is (Ok x) f h = absurd h.1
err_is (Err g) f h = ap Err h.1
