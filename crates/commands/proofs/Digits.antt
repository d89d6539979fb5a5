-- Digits read one by one: what those still to come make of the number so far.
use Rattle.std.proofs.Common.{◌≡◌, ℕ, ◌+◌, ◌-◌, ◌*◌, ◌<◌, ◌≤◌, cond, ◌&&◌, leb, List, [], ◌∷◌, length, false, ◌==◌, Some, None, Option, IfSome, arith}
use Rattle.std.proofs.lemmas.Bool.{lt-leb, cond-false, and_right}
use Rattle.std.proofs.lemmas.Bool.Decides.{nat_tests}
use Rattle.days.specs.Digits.{written_after}
use Rattle.commands.specs.Numbers.{all_digits, longer, number_read}

-- the number that digits write after those of n, if they are digits and it is no larger than the most
abbrev pub rest_read : ℕ → ℕ → List ℕ → Option ℕ
rest_read most n bs = cond (all_digits bs && leb (written_after n bs) most) (Some (written_after n bs)) None

pub written_grows : (bs : List ℕ) (n : ℕ) → n ≤ written_after n bs
written_grows [] n = omega arith
written_grows (b ∷ bs) n = omega (arith, written_grows bs (n * 10 + (b - 48)))

-- a number that is too large stays so
pub too_large : (bs : List ℕ) (most n : ℕ) → most < n → rest_read most n bs ≡ None
too_large bs most n h =
    let g = written_grows bs n in
    let far : most < written_after n bs = omega arith in
    cond-false _ _ _ (and_right (all_digits bs) _ (lt-leb _ _ far))

-- a digit more
pub digit_more : (most n m b : ℕ) (bs : List ℕ) → longer most n b ≡ Some m → (rest_read most n (b ∷ bs) ≡ rest_read most m bs) × (m ≤ most)
digit_more most n m b bs e = (grind (arith, nat_tests), grind (arith, nat_tests))

-- a byte that is no digit, or one that makes the number too large
pub digit_last : (most n b : ℕ) (bs : List ℕ) → n ≤ most → longer most n b ≡ None → rest_read most n (b ∷ bs) ≡ None
digit_last most n b bs h e = let far = too_large bs most (n * 10 + (b - 48)) in grind (arith, nat_tests)

-- nothing more
pub all_read : (most n : ℕ) (bs : List ℕ) → n ≤ most → length bs ≡ 0 → rest_read most n bs ≡ Some n
all_read most n [] h e = grind (arith, nat_tests)
all_read most n (b ∷ bs) h e = absurd (omega arith)

-- all of a word that is not empty
pub whole_read : (most : ℕ) (bs : List ℕ) → (length bs == 0) ≡ false → rest_read most 0 bs ≡ number_read most bs
whole_read most [] e = grind (arith, nat_tests)
whole_read most (b ∷ bs) e = grind (arith, nat_tests)

pub within : (most : ℕ) (bs : List ℕ) (r : Option ℕ) → r ≡ rest_read most 0 bs → IfSome r (λ n. n ≤ most)
within most bs r e = grind (arith, nat_tests)
