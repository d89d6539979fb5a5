-- Codes in turn: the first of them, and one among them.
use Rattle.std.proofs.Common.{◌≡◌, ℕ, zero, suc, ◌+◌, ◌-◌, ◌<◌, ◌≤◌, List, [], ◌∷◌, ◌++◌, map, length, take, drop, set, replicate, sym, refl, ap, ◌∙◌, arith, length-drop, length-take-le, not-suc-le-zero, le_of_suc-le-suc}
use Rattle.std.proofs.lemmas.List.{take-map, length-map, length-append, length-replicate, length_push, append_assoc, append-nil, drop_all, take_all, replicate-append-replicate, take-append-le, drop-append-le}
use Rattle.std.proofs.Math.Seq.{drop-append_seam, take-append_seam}
use borrow.Rule.Slice.PartMut.{put_mid}
use Rattle.std.specs.List.{insert}
use Rattle.short_lists.specs.Places.{places}
use Rattle.calendar.specs.declared.sheet.MonthCode.{MonthCode}
use Rattle.calendar.specs.Laws.{counted}
use Rattle.calendar.specs.Codes.{plain_codes}
use Rattle.calendar.specs.Sheets.{plain_code, no_code}

-- fewer in turn are the first of more
take-counted : (k n m : ℕ) → n ≤ m → take n (counted k m) ≡ counted k n
take-counted k zero m h = refl
take-counted k (suc n) zero h = absurd (not-suc-le-zero h)
take-counted k (suc n) (suc m) h = ap (λ l. k ∷ l) (take-counted (suc k) n m (le_of_suc-le-suc h))

length-counted : (k n : ℕ) → length (counted k n) ≡ n
length-counted k zero = refl
length-counted k (suc n) = ap suc (length-counted (suc k) n)

pub length-plain_codes : (k n : ℕ) → length (plain_codes k n) ≡ n
length-plain_codes k n = length-map (counted k n) plain_code ∙ length-counted k n

-- what is written from place i on in an array
put_rest : {X : Type 0} (array new : List X) (i : ℕ) → length array ≡ 13 → put_mid i (13 - i) array new ≡ take i array ++ new
put_rest array new i long =
    ap (λ l. take i array ++ (new ++ l)) (drop_all (13 - i) (drop i array) (omega (arith, length-drop i array, long)))
    ∙ ap (λ l. take i array ++ l) (append-nil new)

-- the first n of thirteen plain codes, and blanks behind
pub plain_first : (n : ℕ) (new : List MonthCode) → n ≤ 13 → new ≡ replicate (length (take (13 - n) (drop n (plain_codes 1 13)))) no_code →
    put_mid n (13 - n) (plain_codes 1 13) new ≡ places 13 no_code (plain_codes 1 n)
plain_first n new h e =
    let first : take n (plain_codes 1 13) ≡ plain_codes 1 n = take-map plain_code n (counted 1 13) ∙ ap (map plain_code) (take-counted 1 n 13 h) in
    let size : length (take (13 - n) (drop n (plain_codes 1 13))) ≡ 13 - length (plain_codes 1 n) =
    omega (arith, length-take-le (13 - n) (drop n (plain_codes 1 13)) (omega (arith, length-drop n (plain_codes 1 13))), length-plain_codes 1 n) in
    put_rest (plain_codes 1 13) new n refl ∙ ap (λ l. l ++ new) first
    ∙ ap (λ l. plain_codes 1 n ++ l) (e ∙ ap (λ k. replicate k no_code) size)

-- rotated by one, the last element of a list is its first
rotated : {X : Type 0} (xs : List X) (x : X) → drop (length (xs ++ x ∷ []) - 1) (xs ++ x ∷ []) ++ take (length (xs ++ x ∷ []) - 1) (xs ++ x ∷ []) ≡ x ∷ xs
rotated xs x =
    let n = length_push xs x in
    let e : length (xs ++ x ∷ []) - 1 ≡ length xs = omega arith in
    rw e (ap (λ l. l ++ take (length xs) (xs ++ x ∷ [])) (drop-append_seam xs (x ∷ [])) ∙ ap (λ l. x ∷ l) (take-append_seam xs (x ∷ [])))

-- one element more at place i of a list that lies in an array: the places from there on are rotated by one, and the
-- first of them is written
module _ {X : Type 0} (blank x : X) (xs : List X) (i : ℕ) (within : i ≤ length xs) (room : length xs < 13) where
  abbrev array : List X
  array = places 13 blank xs

  abbrev rest : List X
  rest = drop i xs ++ replicate (12 - length xs) blank

  blanks : replicate (13 - length xs) blank ≡ replicate (12 - length xs) blank ++ blank ∷ []
  blanks =
      let e : 13 - length xs ≡ 12 - length xs + 1 = omega arith in
      rw e (sym (replicate-append-replicate (12 - length xs) 1 blank))

  behind : drop i array ≡ rest ++ blank ∷ []
  behind =
      drop-append-le i xs (replicate (13 - length xs) blank) within ∙ ap (λ l. drop i xs ++ l) blanks
      ∙ sym (append_assoc (drop i xs) (replicate (12 - length xs) blank) (blank ∷ []))

  long : length array ≡ 13
  long = omega (arith, length-append xs (replicate (13 - length xs) blank), length-replicate (13 - length xs) blank)

  abbrev part : List X
  part = take (13 - i) (drop i array)

  rotates : part ≡ rest ++ blank ∷ []
  rotates = take_all (13 - i) (drop i array) (omega (arith, length-drop i array, long)) ∙ behind

  longer : length (insert xs i x) ≡ length xs + 1
  longer = omega (arith, length-append (take i xs) (x ∷ drop i xs), length-drop i xs, length-take-le i xs within)

  after : places 13 blank (insert xs i x) ≡ take i xs ++ x ∷ rest
  after =
      let e : 13 - length (insert xs i x) ≡ 12 - length xs = omega (arith, longer) in
      rw e (append_assoc (take i xs) (x ∷ drop i xs) (replicate (12 - length xs) blank))

  pub inserted : (new : List X) → new ≡ drop (length part - 1) part ++ take (length part - 1) part →
      put_mid i (13 - i) array (set new 0 x) ≡ places 13 blank (insert xs i x)
  inserted new e =
      let r : new ≡ blank ∷ rest = e ∙ ap (λ d. drop (length d - 1) d ++ take (length d - 1) d) rotates ∙ rotated rest blank in
      put_rest array (set new 0 x) i long
      ∙ ap (λ l. take i array ++ set l 0 x) r
      ∙ ap (λ l. l ++ x ∷ rest) (take-append-le i xs (replicate (13 - length xs) blank) within)
      ∙ sym after
