-- What is read is within its bounds.
-- They stay: each goes by what is read or by an induction over a list, which the check does not make.
use Rattle.std.proofs.Common.{◌≡◌, ℕ, suc, Bool, true, ◌&&◌, eqb, leb, List, [], ◌∷◌, length, Some, None, Option, refl, ap, ◌∙◌}
use Rattle.std.proofs.lemmas.Bool.{and_from, cond_both}
use Rattle.days.specs.declared.weekday.Weekday.{Weekday}
use Rattle.rules.specs.Parts.{each_of, code_ok, position_ok, number_ok}
use Rattle.rules.specs.declared.parts.Position.{Position}
use Rattle.rules.specs.declared.parts.Position.TheVariants.{FromStart, FromEnd}
use Rattle.text.specs.Pieces.{pieces}
use Rattle.rule_values.specs.Numbers.{from_one, number_to, number_read, counted, position_read}
use Rattle.rule_values.specs.Items.{ahead, lettered, leap_read, month_code, month_code_read, month_day_read, which_read, some_position, by_day, by_day_read}
use Rattle.rule_values.specs.Words.{weekday_read}
use Rattle.rule_values.specs.Lists.{in_front, all_read, list_read}
use Rattle.rule_values.specs.Values.{months_read, month_days_read, weekdays_read}

-- what is read, if anything is
abbrev pub IfRead : {A : Type 0} → (A → Type 0) → Option A → Type 0
IfRead P None = Unit {0}
IfRead P (Some x) = P x

-- numbers
abbrev pub Within : ℕ → ℕ → Type 0
Within most n = (leb 1 n && leb n most) ≡ true

from_one_within : (most : ℕ) (o : Option ℕ) → IfRead (Within most) (from_one most o)
from_one_within most None = tt
from_one_within most (Some n) = cond_both (leb 1 n && leb n most) (Some n) None (IfRead (Within most)) (λ e. e) (λ e. tt)

pub number_within : (most : ℕ) (bs : List ℕ) → IfRead (Within most) (number_to most bs)
number_within most bs = from_one_within most (number_read bs)

-- positions
from_start_ok : (most : ℕ) (o : Option ℕ) → IfRead (Within most) o → IfRead (λ p. position_ok most p ≡ true) (counted FromStart o)
from_start_ok most None h = tt
from_start_ok most (Some n) h = h

from_end_ok : (most : ℕ) (o : Option ℕ) → IfRead (Within most) o → IfRead (λ p. position_ok most p ≡ true) (counted FromEnd o)
from_end_ok most None h = tt
from_end_ok most (Some n) h = h

position_within : (most : ℕ) (bs : List ℕ) → IfRead (λ p. position_ok most p ≡ true) (position_read most bs)
position_within most [] = tt
position_within most (b ∷ bs) =
    cond_both (eqb b 45) _ _ (IfRead (λ p. position_ok most p ≡ true))
    (λ e. from_end_ok most (number_to most bs) (number_within most bs))
    (λ e. cond_both (eqb b 43) _ _ (IfRead (λ p. position_ok most p ≡ true))
    (λ f. from_start_ok most (number_to most bs) (number_within most bs))
    (λ f. from_start_ok most (number_to most (b ∷ bs)) (number_within most (b ∷ bs))))

-- items
code_within : (leap : Option Bool) (o : Option ℕ) → IfRead (Within 13) o → IfRead (λ c. code_ok c ≡ true) (month_code leap o)
code_within None o h = tt
code_within (Some l) None h = tt
code_within (Some l) (Some n) h = h

month_code_within : (bs : List ℕ) → IfRead (λ c. code_ok c ≡ true) (month_code_read bs)
month_code_within bs = code_within (leap_read (lettered bs)) (number_to 13 (ahead bs)) (number_within 13 (ahead bs))

some_position_within : (o : Option Position) → IfRead (λ p. position_ok 53 p ≡ true) o → IfRead (λ q. number_ok q ≡ true) (some_position o)
some_position_within None h = tt
some_position_within (Some p) h = h

which_within : (bs : List ℕ) → IfRead (λ q. number_ok q ≡ true) (which_read bs)
which_within [] = refl
which_within (b ∷ bs) = some_position_within (position_read 53 (b ∷ bs)) (position_within 53 (b ∷ bs))

day_within : (day : Option Weekday) (which : Option (Option Position)) → IfRead (λ q. number_ok q ≡ true) which → IfRead (λ b. number_ok b.position ≡ true) (by_day day which)
day_within None which h = tt
day_within (Some day) None h = tt
day_within (Some day) (Some which) h = h

by_day_within : (bs : List ℕ) → IfRead (λ b. number_ok b.position ≡ true) (by_day_read bs)
by_day_within bs = day_within (weekday_read (lettered bs)) (which_read (ahead bs)) (which_within (ahead bs))

-- lists
abbrev Long : {A : Type 0} → (A → Bool) → ℕ → List A → Type 0
Long ok n xs = (length xs ≡ n) × (each_of ok xs ≡ true)

in_front_long : {A : Type 0} (ok : A → Bool) (n : ℕ) (o : Option A) (xs : Option (List A)) → IfRead (λ x. ok x ≡ true) o → IfRead (Long ok n) xs → IfRead (Long ok (suc n)) (in_front o xs)
in_front_long ok n None xs h k = tt
in_front_long ok n (Some x) None h k = tt
in_front_long ok n (Some x) (Some xs) h k = (ap suc k.0, and_from (ok x) (each_of ok xs) h k.1)

all_long : {A : Type 0} (ok : A → Bool) (read : List ℕ → Option A) → ((t : List ℕ) → IfRead (λ x. ok x ≡ true) (read t)) → (ts : List (List ℕ)) → IfRead (Long ok (length ts)) (all_read read ts)
all_long ok read each [] = (refl, refl)
all_long ok read each (t ∷ ts) = in_front_long ok (length ts) (read t) (all_read read ts) (each t) (all_long ok read each ts)

-- at most n items, each as it must be
abbrev Fits : {A : Type 0} → (A → Bool) → ℕ → List A → Type 0
Fits ok n xs = (leb (length xs) n ≡ true) × (each_of ok xs ≡ true)

long_fits : {A : Type 0} (ok : A → Bool) (n m : ℕ) (o : Option (List A)) → leb m n ≡ true → IfRead (Long ok m) o → IfRead (Fits ok n) o
long_fits ok n m None h k = tt
long_fits ok n m (Some xs) h k = (ap (λ l. leb l n) k.0 ∙ h, k.1)

list_fits : {A : Type 0} (ok : A → Bool) (n : ℕ) (read : List ℕ → Option A) → ((t : List ℕ) → IfRead (λ x. ok x ≡ true) (read t)) → (bs : List ℕ) → IfRead (Fits ok n) (list_read n read bs)
list_fits ok n read each bs =
    cond_both (leb (length (pieces 44 bs)) n) _ _ (IfRead (Fits ok n))
    (λ e. long_fits ok n (length (pieces 44 bs)) (all_read read (pieces 44 bs)) e (all_long ok read each (pieces 44 bs)))
    (λ e. tt)

pub months_fit : (bs : List ℕ) → IfRead (λ m. (leb (length m) 16 ≡ true) × (each_of code_ok m ≡ true)) (months_read bs)
months_fit bs = list_fits code_ok 16 month_code_read month_code_within bs

pub month_days_fit : (bs : List ℕ) → IfRead (λ d. (leb (length d) 62 ≡ true) × (each_of (position_ok 31) d ≡ true)) (month_days_read bs)
month_days_fit bs = list_fits (position_ok 31) 62 month_day_read (position_within 31) bs

pub weekdays_fit : (bs : List ℕ) → IfRead (λ w. (leb (length w) 16 ≡ true) × (each_of (λ b. number_ok b.position) w ≡ true)) (weekdays_read bs)
weekdays_fit bs = list_fits (λ b. number_ok b.position) 16 by_day_read by_day_within bs
