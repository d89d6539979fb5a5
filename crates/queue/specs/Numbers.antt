-- Numbers, by which is less, have a strict total order, and so have entries by two or three of their numbers in turn.
use Rattle.std.specs.Prelude.{◌≡◌, ℕ, if◌then◌else◌, nat_eq, nat_lt}
use Rattle.std.proofs.Common.{rules}
use Rattle.queue.specs.Order.{Strict}

pub nat_strict : Strict nat_lt
nat_strict = search rules

-- first by f, then by g, which together tell entries apart
pub pair_strict : {X : Type 0} (f g : X → ℕ) → ((x y : X) → f x ≡ f y → g x ≡ g y → x ≡ y)
    → Strict (λ x y. if nat_eq (f x) (f y) then nat_lt (g x) (g y) else nat_lt (f x) (f y))
pair_strict f g same = search rules

-- first by f, then by g, then by h
pub triple_strict : {X : Type 0} (f g h : X → ℕ) → ((x y : X) → f x ≡ f y → g x ≡ g y → h x ≡ h y → x ≡ y)
    → Strict (λ x y. if nat_eq (f x) (f y) then (if nat_eq (g x) (g y) then nat_lt (h x) (h y) else nat_lt (g x) (g y)) else nat_lt (f x) (f y))
triple_strict f g h same = search rules
