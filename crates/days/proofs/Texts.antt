-- Eight digits and the date that they write: each gives the other, and no other.
use Rattle.std.proofs.Common.{◌≡◌, ℕ, zero, suc, ◌+◌, ◌-◌, ◌*◌, ◌/◌, ◌%◌, ◌<◌, ◌≤◌, Bool, true, false, cond, eqb, List, [], ◌∷◌, map, length, get_or, drop, Some, None, Ok, Err, Option, Result, sym, refl, ap, ◌∙◌, ⊎_elim, arith, lit<}
use Rattle.std.proofs.lemmas.List.{drop_more, drop_all, get_or-map}
use Rattle.std.proofs.lemmas.Bool.{cases_Bool, cond-true, cond-false, eqb-true, eq-eqb}
use Rattle.std.proofs.lemmas.Bool.Decides.{nat_tests}
use Rattle.std.specs.Option.{ok_or}
use Rattle.days.specs.declared.digits.DateFault.{DateFault}
use Rattle.days.specs.declared.digits.DateFault.TheVariants.{Length, NoDigit, NoSuchDay}
use Rattle.days.specs.Numbers.{in_range}
use Rattle.days.specs.Gregorian.{day_of_date, DateOf}
use Rattle.days.specs.Digits.{digit, first_other, year_of, month_of, day_of, or_no_such_day, day_named, date_read, values_named, values_read, last_digit, date_text, Written}
use Rattle.days.proofs.Years.{date_bounds}

-- eight bytes, each a digit
pub record Eight (bs : List ℕ) : Type 0 where
  pub long : length bs ≡ 8
  pub none_other : first_other 0 bs ≡ None

-- a byte that is a digit
abbrev Digit : ℕ → Type 0
Digit b = (48 ≤ b) × (b ≤ 57)

-- where no other byte is found, the first is a digit, and none is found after it
first_digit : (i b : ℕ) (bs : List ℕ) → first_other i (b ∷ bs) ≡ None → Digit b × (first_other (i + 1) bs ≡ None)
first_digit i b bs e =
    ⊎_elim
    (λ (t : digit b ≡ true).
    ((grind (arith, nat_tests), grind (arith, nat_tests)), sym (cond-true (digit b) (first_other (i + 1) bs) (Some i) t) ∙ e))
    (λ (t : digit b ≡ false). let s = sym e ∙ cond-false (digit b) (first_other (i + 1) bs) (Some i) t in cc)
    (cases_Bool (digit b))

all_digits : (i : ℕ) (bs : List ℕ) → first_other i bs ≡ None → (k : ℕ) → k < length bs → Digit (get_or bs k 0)
all_digits i [] e k h = absurd (omega arith)
all_digits i (b ∷ bs) e zero h = (first_digit i b bs e).0
all_digits i (b ∷ bs) e (suc k) h = all_digits (i + 1) bs (first_digit i b bs e).1 k (omega arith)

digit_at : (bs : List ℕ) → Eight bs → (k : ℕ) → k < 8 → Digit (get_or bs k 0)
digit_at bs h k i = let l = h.long in all_digits 0 bs h.none_other k (omega arith)

-- n bytes from place i on, one by one
abbrev bytes_from : ℕ → ℕ → List ℕ → List ℕ
bytes_from zero i bs = []
bytes_from (suc n) i bs = get_or bs i 0 ∷ bytes_from n (i + 1) bs

one_by_one : (n i : ℕ) (bs : List ℕ) → length bs ≡ i + n → drop i bs ≡ bytes_from n i bs
one_by_one zero i bs h = drop_all i bs (omega arith)
one_by_one (suc n) i bs h =
    drop_more bs i 0 (omega arith) ∙ ap (λ l. get_or bs i 0 ∷ l) (one_by_one n (i + 1) bs (omega arith))

eight_bytes : (bs : List ℕ) → Eight bs → bs ≡ bytes_from 8 0 bs
eight_bytes bs h = one_by_one 8 0 bs h.long

-- the numbers that they write
year_is : (bs : List ℕ) → Eight bs →
    year_of bs ≡ 1000 * (get_or bs 0 0 - 48) + 100 * (get_or bs 1 0 - 48) + 10 * (get_or bs 2 0 - 48) + (get_or bs 3 0 - 48)
year_is bs h = ap year_of (eight_bytes bs h) ∙ omega arith

month_is : (bs : List ℕ) → Eight bs → month_of bs ≡ 10 * (get_or bs 4 0 - 48) + (get_or bs 5 0 - 48)
month_is bs h = ap month_of (eight_bytes bs h) ∙ omega arith

day_is : (bs : List ℕ) → Eight bs → day_of bs ≡ 10 * (get_or bs 6 0 - 48) + (get_or bs 7 0 - 48)
day_is bs h = ap day_of (eight_bytes bs h) ∙ omega arith

or_okOr : (o : Option ℕ) → or_no_such_day o ≡ ok_or o NoSuchDay
or_okOr (Some n) = refl
or_okOr None = refl

some_named : (o : Option ℕ) (n : ℕ) → or_no_such_day o ≡ Ok n → o ≡ Some n
some_named (Some m) n e = cc
some_named None n e = cc

-- an answer of f that is given for eight digits only
eight_true : {X : Type 0} (f : Option ℕ → Result X DateFault) → ((i : ℕ) → f (Some i) ≡ Err (NoDigit i)) →
    (b : Bool) (o : Option ℕ) (x : X) → cond b (f o) (Err Length) ≡ Ok x → (b ≡ true) × (o ≡ None) × (f None ≡ Ok x)
eight_true f h true (Some i) x e = let k = h i in cc
eight_true f h true None x e = (refl, refl, e)
eight_true f h false o x e = cc

eight_asked : {X : Type 0} (f : Option ℕ → Result X DateFault) → ((i : ℕ) → f (Some i) ≡ Err (NoDigit i)) →
    (bs : List ℕ) (x : X) → cond (eqb (length bs) 8) (f (first_other 0 bs)) (Err Length) ≡ Ok x → Eight bs × (f None ≡ Ok x)
eight_asked f h bs x e =
    let t = eight_true f h (eqb (length bs) 8) (first_other 0 bs) x e in
    (record { long = eqb-true _ _ t.0; none_other = t.1 }, t.2)

eight_given : {X : Type 0} (f : Option ℕ → Result X DateFault) (bs : List ℕ) → Eight bs →
    cond (eqb (length bs) 8) (f (first_other 0 bs)) (Err Length) ≡ f None
eight_given f bs h = cond-true _ _ _ (eq-eqb (length bs) 8 h.long) ∙ ap f h.none_other

-- the text has eight digits, whose values are ds
pub record Valued (bs ds : List ℕ) : Type 0 where
  pub eight : Eight bs
  pub small : (k : ℕ) → k < 8 → get_or ds k 0 ≤ 9
  pub year : year_of bs ≡ 1000 * get_or ds 0 0 + 100 * get_or ds 1 0 + 10 * get_or ds 2 0 + get_or ds 3 0
  pub month : month_of bs ≡ 10 * get_or ds 4 0 + get_or ds 5 0
  pub day : day_of bs ≡ 10 * get_or ds 6 0 + get_or ds 7 0

pub valued : (bs ds : List ℕ) → Ok ds ≡ values_read bs → Valued bs ds
valued bs ds e =
    let a = eight_asked (λ o. values_named o bs) (λ i. refl) bs ds (sym e) in
    let l = a.0.long in
    let i : map (λ b. b - 48) bs ≡ ds = let s = a.1 in cc in
    let at : (k : ℕ) → k < 8 → get_or ds k 0 ≡ get_or bs k 0 - 48 =
    λ k h. rw (sym i) (get_or-map (λ b. b - 48) bs k 0 0 (omega arith)) in
    let y = year_is bs a.0 in
    let m = month_is bs a.0 in
    let d = day_is bs a.0 in
    record {
      eight = a.0;
      small = λ k h. let d = digit_at bs a.0 k h in omega (arith, at k h);
      year = omega (arith, at 0 (lit< tt), at 1 (lit< tt), at 2 (lit< tt), at 3 (lit< tt));
      month = omega (arith, at 4 (lit< tt), at 5 (lit< tt));
      day = omega (arith, at 6 (lit< tt), at 7 (lit< tt));
    }

-- the day that eight digits name
pub day_read : (bs : List ℕ) (y m d : ℕ) → Eight bs → y ≡ year_of bs → m ≡ month_of bs → d ≡ day_of bs → ok_or (day_of_date y m d) NoSuchDay ≡ date_read bs
day_read bs y m d h ye me de =
    simp (ye, me, de) (sym (eight_given (λ o. day_named o bs) bs h ∙ or_okOr _))

-- last digits are digits
last_digits : (i : ℕ) (ns : List ℕ) → first_other i (map last_digit ns) ≡ None
last_digits i [] = refl
last_digits i (n ∷ ns) =
    let t : digit (last_digit n) ≡ true = grind (arith, nat_tests) in
    cond-true (digit (last_digit n)) (first_other (i + 1) (map last_digit ns)) (Some i) t ∙ last_digits (i + 1) ns

text_eight : (y m d : ℕ) → Eight (date_text y m d)
text_eight y m d = record {
  long = refl;
  none_other = last_digits 0 (y / 1000 ∷ y / 100 ∷ y / 10 ∷ y ∷ m / 10 ∷ m ∷ d / 10 ∷ d ∷ []);
}

-- the text of a date reads as that date
text_year : (y m d : ℕ) → y ≤ 9999 → y ≡ year_of (date_text y m d)
text_year y m d h =
    let thousands : y / 1000 % 10 ≡ y / 1000 = omega arith in
    let tens : y / 10 ≡ 10 * (y / 100) + y / 10 % 10 = omega arith in
    let hundreds : y / 100 ≡ 10 * (y / 1000) + y / 100 % 10 = omega arith in
    omega arith

text_month : (y m d : ℕ) → m ≤ 99 → m ≡ month_of (date_text y m d)
text_month y m d h = omega arith

text_day : (y m d : ℕ) → d ≤ 99 → d ≡ day_of (date_text y m d)
text_day y m d h = omega arith

-- the last digits of two
two : (a b n : ℕ) → Digit a → Digit b → n ≡ 10 * (a - 48) + (b - 48) → (last_digit (n / 10) ≡ a) × (last_digit n ≡ b)
two a b n f g e = (omega arith, omega arith)

-- and no other text does
text_only : (bs : List ℕ) → Eight bs → date_text (year_of bs) (month_of bs) (day_of bs) ≡ bs
text_only bs h =
    let d0 = digit_at bs h 0 (lit< tt) in
    let d1 = digit_at bs h 1 (lit< tt) in
    let d2 = digit_at bs h 2 (lit< tt) in
    let d3 = digit_at bs h 3 (lit< tt) in
    let y = year_is bs h in
    let e0 : last_digit (year_of bs / 1000) ≡ get_or bs 0 0 = omega arith in
    let e1 : last_digit (year_of bs / 100) ≡ get_or bs 1 0 = omega arith in
    let e2 : last_digit (year_of bs / 10) ≡ get_or bs 2 0 = omega arith in
    let e3 : last_digit (year_of bs) ≡ get_or bs 3 0 = omega arith in
    let m = two _ _ (month_of bs) (digit_at bs h 4 (lit< tt)) (digit_at bs h 5 (lit< tt)) (month_is bs h) in
    let d = two _ _ (day_of bs) (digit_at bs h 6 (lit< tt)) (digit_at bs h 7 (lit< tt)) (day_is bs h) in
    let e = eight_bytes bs h in
    cc

-- what reads as a day is eight digits that name it
named : (bs : List ℕ) (n : ℕ) → date_read bs ≡ Ok n → Eight bs × (day_of_date (year_of bs) (month_of bs) (day_of bs) ≡ Some n)
named bs n e =
    let a = eight_asked (λ o. day_named o bs) (λ i. refl) bs n e in
    (a.0, some_named _ n a.1)

-- the answer of the way back
pub written_some : (n y m d : ℕ) (r : List ℕ) → in_range n ≡ true → DateOf n (Some (y, m, d)) → r ≡ date_text y m d → Written n (Some r)
written_some n y m d r i h e =
    let s = h.right y m d refl in
    let b = date_bounds y m d n s in
    record {
      reads = λ bs f.
          let g : r ≡ bs = cc in
          let t = sym g ∙ e in
          (i, rw t (sym (day_read (date_text y m d) y m d (text_eight y m d) (text_year y m d b.0) (text_month y m d b.1) (text_day y m d b.2)) ∙ ap (λ o. ok_or o NoSuchDay) s));
      only = λ bs j f.
          let k = named bs n f in
          let o = h.only (year_of bs) (month_of bs) (day_of bs) k.1 in
          let t : ◌≡◌ {A = ℕ × ℕ × ℕ} (y, m, d) (year_of bs, month_of bs, day_of bs) = cc in
          ap Some (e ∙ ap (λ (t : ℕ × ℕ × ℕ). date_text t.0 t.1 t.2) t ∙ text_only bs k.0);
    }
