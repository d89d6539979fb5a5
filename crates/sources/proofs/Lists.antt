-- The least of the days of a list that are at or after a day, and the earlier of two sets' answers.
use Rattle.std.proofs.Common.{◌≡◌, ℕ, ◌<◌, ◌≤◌, Bool, true, false, ◌&&◌, leb, eqb, List, [], ◌∷◌, ◌++◌, min, Some, None, Option, refl, ap, arith, MatchOption, ⊎_elim, ◌⊎◌, inl, inr}
use Rattle.std.specs.List.{filter, fold, reduce, Contains, All}
use Rattle.std.specs.Option.{option_to_list}
use Rattle.std.proofs.lemmas.Bool.{cases_Bool, cases_lt, eqb-true, eq-eqb}
use Rattle.std.proofs.lemmas.List.Folds.{Any-from_list_any, list_any_at}
use Rattle.std.proofs.lemmas.Bool.Decides.{nat_tests}
use Rattle.std.proofs.lemmas.Map.Views.{any-filter_same}
use Rattle.days.specs.Numbers.{in_range}
use Rattle.sources.specs.Sets.{DayOf, Found, listed, union}

record LeastListed (xs : List ℕ) (m : ℕ) : Type 0 where
  on : listed xs m ≡ true
  least : (d : ℕ) → listed xs d ≡ true → m ≤ d

two_least : (x y z m : ℕ) (ys : List ℕ) → z ≡ min x y → (x ≤ y → z ≡ x) → (y ≤ x → z ≡ y) → LeastListed (z ∷ ys) m → LeastListed (x ∷ y ∷ ys) m
two_least x y z m ys e f g h =
    let on = h.on in
    ⊎_elim
    (λ (lt : x < y).
    let is = f (omega arith) in
    record { on = grind (arith, nat_tests); least = λ d k. let l = h.least d in let zl = h.least z in grind (arith, nat_tests) })
    (λ (le : y ≤ x).
    let is = g le in
    record { on = grind (arith, nat_tests); least = λ d k. let l = h.least d in let zl = h.least z in grind (arith, nat_tests) })
    (cases_lt x y)

fold-min : (x : ℕ) (xs : List ℕ) → LeastListed (x ∷ xs) (fold min x xs)
fold-min x [] = record { on = grind (arith, nat_tests); least = λ d h. grind (arith, nat_tests) }
fold-min x (y ∷ ys) = two_least x y (min x y) _ ys refl (λ l. omega arith) (λ l. omega arith) (fold-min (min x y) ys)

module _ (from : ℕ) where
  abbrev pub late : ℕ → Bool
  late day = leb from day && in_range day

  -- the late days of a list are its days that are late
  listed-filter : (xs : List ℕ) (d : ℕ) → listed (filter late xs) d ≡ (late d && listed xs d)
  listed-filter xs d = any-filter_same (λ day. eqb day d) late (late d) (λ k h. ap late (eqb-true k d h)) xs

  found_filtered : (xs ys : List ℕ) → ((d : ℕ) → listed ys d ≡ (late d && listed xs d)) → Found (listed xs) from (reduce min ys)
  found_filtered xs [] same = λ e o h. let s = same e in let r = o.ranged in let on = o.on in grind (arith, nat_tests)
  found_filtered xs (y ∷ ys) same =
      let m = fold min y ys in
      let h = fold-min y ys in
      let s = same m in
      let on = h.on in
      record {
        day = record { ranged = grind (arith, nat_tests); on = grind (arith, nat_tests) };
        late = grind (arith, nat_tests);
        least = λ e o k. let t = same e in let r = o.ranged in let p = o.on in let l = h.least e in grind (arith, nat_tests);
      }

  pub found_least : (xs : List ℕ) → Found (listed xs) from (reduce min (filter late xs))
  found_least xs = found_filtered xs (filter late xs) (listed-filter xs)

module _ (s t : ℕ → Bool) where
  one_of_two : (e : ℕ) → DayOf (union s t) e → DayOf s e ⊎ DayOf t e
  one_of_two e o =
      ⊎_elim
      (λ (on : s e ≡ true). inl (record { ranged = o.ranged; on = on }))
      (λ (off : s e ≡ false). let both = o.on in inr (record { ranged = o.ranged; on = grind (arith, nat_tests) }))
      (cases_Bool (s e))

  in_one : (e : ℕ) → DayOf s e → DayOf (union s t) e
  in_one e o = let on = o.on in record { ranged = o.ranged; on = grind (arith, nat_tests) }

  in_other : (e : ℕ) → DayOf t e → DayOf (union s t) e
  in_other e o = let on = o.on in record { ranged = o.ranged; on = grind (arith, nat_tests) }

  pub found_union : (from : ℕ) (a b : Option ℕ) → Found s from a → Found t from b → Found (union s t) from (reduce min (option_to_list a ++ option_to_list b))
  found_union from None None f g = λ e o h. ⊎_elim (λ x. f e x h) (λ y. g e y h) (one_of_two e o)
  found_union from (Some a) None f g =
      record { day = in_one a f.day; late = f.late; least = λ e o h. ⊎_elim (λ x. f.least e x h) (λ y. absurd (g e y h)) (one_of_two e o) }
  found_union from None (Some b) f g =
      record { day = in_other b g.day; late = g.late; least = λ e o h. ⊎_elim (λ x. absurd (f e x h)) (λ y. g.least e y h) (one_of_two e o) }
  found_union from (Some a) (Some b) f g =
      ⊎_elim
      (λ (lt : a < b).
      let is : min a b ≡ a = omega arith in
      rw is (record { day = in_one a f.day; late = f.late; least = λ e o h. ⊎_elim (λ x. f.least e x h) (λ y. let l = g.least e y h in omega arith) (one_of_two e o) }))
      (λ (ge : b ≤ a).
      let is : min a b ≡ b = omega arith in
      rw is (record { day = in_other b g.day; late = g.late; least = λ e o h. ⊎_elim (λ x. let l = f.least e x h in omega arith) (λ y. g.least e y h) (one_of_two e o) }))
      (cases_lt a b)

-- what `min` says of a list is that it is the least
pub min_of : (xs : List ℕ) (r : Option ℕ) → MatchOption r (xs ≡ []) (λ m. Contains xs m × All (λ d. m ≤ d) xs) → r ≡ reduce min xs
min_of [] None h = refl
min_of [] (Some m) h = absurd (omega (arith, h.0.1))
min_of (x ∷ xs) None h = cc
min_of (x ∷ xs) (Some m) h =
    let f = fold-min x xs in
    let at = Any-from_list_any (λ d. eqb d (fold min x xs)) (x ∷ xs) f.on in
    let is = eqb-true at.1 (fold min x xs) at.4 in
    let no_later : m ≤ at.1 = rw (at.3) at (h.1 at.0 at.1 at.2) in
    let no_earlier = f.least m (list_any_at (λ d. eqb d m) (x ∷ xs) h.0.0 m h.0.1 (eq-eqb _ m h.0.2)) in
    let same : m ≡ fold min x xs = omega arith in
    ap Some same
