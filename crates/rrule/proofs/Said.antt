-- A value that is refused has another form than its name asks for.
-- It stays: it goes by what is there and what is read, in the value and in the answer at once, which the check does not.
use Rattle.std.proofs.Common.{◌≡◌, ℕ, false, List, Some, None, Option, Ok, Err, Result, MatchOption, IfErr, is_some, sym, ap}
use Rattle.std.specs.Option.{IsSomeAnd, option_map, option_transpose}
use Rattle.rrule.specs.Named.{in_form}

module _ {X A F : Type 0} (left : X → List ℕ) (read : List ℕ → Option A) (bad : F) (P : X → Result A F → Type 0)
    (formed : (x : X) (r : Result A F) → P x r → IfErr r (λ fault. (read (left x) ≡ None) × (fault ≡ bad))) where
  pub refused : (o : Option X) (v : Option (List ℕ)) (m : Option (Result A F)) → option_map left o ≡ v
      → MatchOption o (m ≡ None) (λ x. IsSomeAnd m (P x))
      → IfErr (option_transpose m) (λ fault. (in_form read v ≡ false) × (fault ≡ bad))
  refused None v None e h = tt
  refused None v (Some r) e h = absurd (let k : ◌≡◌ {A = Option (Result A F)} (Some r) None = h in cc)
  refused (Some x) v None e h = absurd h
  refused (Some x) v (Some (Ok a)) e h = tt
  refused (Some x) v (Some (Err f)) e h = let k = formed x (Err f) h in (rw (sym e) (ap is_some k.0), k.1)
