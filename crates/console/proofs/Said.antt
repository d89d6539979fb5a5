-- What is said of two lists side by side, pair by pair.
use Rattle.std.proofs.Common.{◌≡◌, ℕ, zero, suc, ◌+◌, ◌-◌, ◌<◌, List, [], ◌∷◌, ◌++◌, length, get_or, None, Option, refl, sym, ap, ◌∙◌, not-suc-le-zero, le_of_suc-le-suc, append_assoc, append-nil, arith, length-append, below_more, ◌⊎◌, ⊎_elim}
use Rattle.std.proofs.Math.Seq.{get_or-append_seam}
use Rattle.std.proofs.lemmas.List.{get_or_append_left}
use Rattle.std.proofs.lemmas.Bool.{cond-false, ne_eqb}
use Rattle.calendar.specs.declared.dates.NamedDate.{NamedDate}
use Rattle.calendar.specs.Sheets.{Almanac}
use Rattle.calendar.specs.Dates.{DateNamed}
use Rattle.calendar.specs.Shelves.{almanac_at, nothing}
use Rattle.console.specs.Texts.{each_said}
use Rattle.console.specs.Lines.{calendar_text, dates_text}

pub none_said : {T U : Type 0} (f : T → U → List ℕ) (xs : List T) → each_said f xs [] ≡ []
none_said f [] = refl
none_said f (x ∷ xs) = refl

-- where one of the lists has ended, all is said
pub all_said : {T U : Type 0} (f : T → U → List ℕ) (xs : List T) (ys : List U) (bs all : List ℕ) → (xs ≡ []) ⊎ (ys ≡ []) → bs ++ each_said f xs ys ≡ all → bs ≡ all
all_said f xs ys bs all ended so_far =
    let none : each_said f xs ys ≡ [] = ⊎_elim (λ p. ap (λ l. each_said f l ys) p) (λ p. ap (each_said f xs) p ∙ none_said f xs) ended in
    sym (append-nil bs) ∙ ap (λ l. bs ++ l) (sym none) ∙ so_far

-- one more at the end of the second list, where the first goes on
pub said_push : {T U : Type 0} (f : T → U → List ℕ) (xs : List T) (ys : List U) (d : T) (y : U) → length ys < length xs → each_said f xs (ys ++ y ∷ []) ≡ each_said f xs ys ++ f (get_or xs (length ys) d) y
said_push f [] ys d y h = absurd (not-suc-le-zero h)
said_push f (x ∷ xs) [] d y h = ap (λ l. f x y ++ l) (none_said f xs) ∙ append-nil (f x y)
said_push f (x ∷ xs) (z ∷ zs) d y h =
    ap (λ l. f x z ++ l) (said_push f xs zs d y (le_of_suc-le-suc h)) ∙
    sym (append_assoc (f x z) (each_said f xs zs) (f (get_or xs (length zs) d) y))

-- what stands at a place of a shelf, as of any list
pub at_place : (l : List Almanac) (i : ℕ) → get_or l i nothing ≡ almanac_at l i
at_place [] i = refl
at_place (a ∷ l) zero = refl
at_place (a ∷ l) (suc i) =
    let e : suc i - 1 ≡ i = omega arith in
    at_place l i ∙ sym (cond-false _ _ _ (ne_eqb (suc i) 0 (λ z. omega arith)) ∙ ap (almanac_at l) e)

-- the text is said of the calendars at the places below k
pub record SaidBelow (shelf : List Almanac) (n k : ℕ) (text : List ℕ) : Type 0 where
  pub dates : List (Option NamedDate)
  pub many : length dates ≡ k
  pub each : (i : ℕ) → i < k → DateNamed (almanac_at shelf i) n (get_or dates i None)
  pub says : text ≡ dates_text shelf dates

-- and of one more
pub said_more : (shelf : List Almanac) (n k : ℕ) (date : Option NamedDate) (text more : List ℕ) → k < length shelf → DateNamed (almanac_at shelf k) n date → more ≡ text ++ calendar_text (almanac_at shelf k).name date → SaidBelow shelf n k text → SaidBelow shelf n (k + 1) more
said_more shelf n k date text more h named says so_far =
    let dates = so_far.dates in
    let at_end : get_or (dates ++ date ∷ []) k None ≡ date = rw (← so_far.many) (get_or-append_seam dates date [] None) in
    let room : length dates < length shelf = omega (arith, so_far.many) in
    let next : get_or shelf (length dates) nothing ≡ almanac_at shelf k = ap (λ i. get_or shelf i nothing) so_far.many ∙ at_place shelf k in
    record {
      dates = dates ++ date ∷ [];
      many = length-append dates (date ∷ []) ∙ omega (arith, so_far.many);
      each = below_more _ k
          (λ i below. let here : i < length dates = omega (arith, so_far.many) in rw (get_or_append_left dates (date ∷ []) None i here) (so_far.each i below))
          (rw at_end named);
      says = says ∙ ap (λ l. l ++ calendar_text (almanac_at shelf k).name date) so_far.says ∙
          ap (λ a. dates_text shelf dates ++ calendar_text a.name date) (sym next) ∙
          sym (said_push (λ a. calendar_text a.name) shelf dates nothing date room);
    }

-- of no calendar, nothing
pub said_none : (shelf : List Almanac) (n : ℕ) (text : List ℕ) → text ≡ [] → SaidBelow shelf n 0 text
said_none shelf n text e = record {
  dates = [];
  many = refl;
  each = λ i below. absurd (omega arith);
  says = e ∙ sym (none_said (λ a. calendar_text a.name) shelf);
}
