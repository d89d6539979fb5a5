-- The verdicts that series records and faults say: as they are kept, how many there are of each, and that the series can be asked.
use Rattle.std.proofs.Common.{◌≡◌, ℕ, zero, suc, List, [], ◌∷◌, length, Ok, Err, Result, is_ok, is_err, IfOk, Vec, vec_items, refl, sym, subst, ap, ◌∙◌, not-suc-le-zero, le_of_suc-le-suc}
use Rattle.std.specs.List.{All, count_by, filter}
use Rattle.std.proofs.lemmas.List.Sums.{length-filter}
use Rattle.calendar.specs.Sheets.{Almanac}
use Rattle.series.specs.declared.record.Series.{Series}
use Rattle.series.specs.Record.{Accepted, Keeps, Ready, kept_in, ruled_in}
use Rattle.icalendar.specs.declared.fault.Fault.{Fault}
use Rattle.icalendar.specs.Files.{file_read, events_of}
use Rattle.icalendar.specs.Verdicts.{Says, verdicts}
use Rattle.icalendar.specs.Read.{AllSay}
use Rattle.commands.specs.declared.command.FileQuery.{FileQuery}
use Rattle.listing.specs.Texts.{verdict_in, verdicts_in, totals, Said, Body, Answer, FileText}

module _ (shelf : List Almanac) where
  -- what a series record keeps is what it says
  kept : (s : Series) (e : Accepted) → Keeps shelf s e → kept_in s ≡ e
  kept s e k =
      ap (λ x. record { file = x; ruled = ruled_in s.recurrence; start = s.start; rdates = s.rdates; exdates = s.exdates; title = s.title }) k.file
      ∙ ap (λ x. record { file = e.file; ruled = x; start = s.start; rdates = s.rdates; exdates = s.exdates; title = s.title }) k.ruled
      ∙ ap (λ x. record { file = e.file; ruled = e.ruled; start = x; rdates = s.rdates; exdates = s.exdates; title = s.title }) k.start
      ∙ ap (λ x. record { file = e.file; ruled = e.ruled; start = e.start; rdates = x; exdates = s.exdates; title = s.title }) k.rdates
      ∙ ap (λ x. record { file = e.file; ruled = e.ruled; start = e.start; rdates = e.rdates; exdates = x; title = s.title }) k.exdates
      ∙ ap (λ x. record { file = e.file; ruled = e.ruled; start = e.start; rdates = e.rdates; exdates = e.exdates; title = x }) k.title

  said : (x : Result Series Fault) (y : Result Accepted Fault) → Says shelf x y → verdict_in x ≡ y
  said (Ok s) (Ok e) k = ap Ok (kept s e k)
  said (Ok s) (Err f) k = absurd k
  said (Err g) (Ok e) k = absurd k
  said (Err g) (Err f) k = ap Err k

  pub all_said : (xs : List (Result Series Fault)) (ys : List (Result Accepted Fault)) → AllSay shelf xs ys → verdicts_in xs ≡ ys
  all_said [] [] k = refl
  all_said [] (y ∷ ys) k = absurd k
  all_said (x ∷ xs) [] k = absurd k
  all_said (x ∷ xs) (y ∷ ys) k = ap (λ z. z ∷ verdicts_in xs) (said x y k.0) ∙ ap (λ zs. y ∷ zs) (all_said xs ys k.1)

  one_ready : (x : Result Series Fault) (y : Result Accepted Fault) → Says shelf x y → IfOk x (Ready shelf)
  one_ready (Ok s) (Ok e) k = k.ready
  one_ready (Ok s) (Err f) k = absurd k
  one_ready (Err g) y k = tt

  pub all_ready : (xs : List (Result Series Fault)) (ys : List (Result Accepted Fault)) → AllSay shelf xs ys → All (λ x. IfOk x (Ready shelf)) xs
  all_ready [] ys k i d h = absurd (not-suc-le-zero h)
  all_ready (x ∷ xs) [] k i d h = absurd k
  all_ready (x ∷ xs) (y ∷ ys) k zero d h = one_ready x y k.0
  all_ready (x ∷ xs) (y ∷ ys) k (suc i) d h = all_ready xs ys k.1 i d (le_of_suc-le-suc h)

as_many_well : (xs : List (Result Series Fault)) → length (filter is_ok (verdicts_in xs)) ≡ length (filter is_ok xs)
as_many_well [] = refl
as_many_well (Ok s ∷ xs) = ap suc (as_many_well xs)
as_many_well (Err f ∷ xs) = as_many_well xs

as_many_faults : (xs : List (Result Series Fault)) → length (filter is_err (verdicts_in xs)) ≡ length (filter is_err xs)
as_many_faults [] = refl
as_many_faults (Ok s ∷ xs) = as_many_faults xs
as_many_faults (Err f ∷ xs) = ap suc (as_many_faults xs)

pub same_totals : (xs : List (Result Series Fault)) → totals (verdicts_in xs) ≡ totals xs
same_totals xs =
    let well : count_by is_ok (verdicts_in xs) ≡ count_by is_ok xs = sym (length-filter is_ok (verdicts_in xs)) ∙ as_many_well xs ∙ length-filter is_ok xs in
    let faults : count_by is_err (verdicts_in xs) ≡ count_by is_err xs = sym (length-filter is_err (verdicts_in xs)) ∙ as_many_faults xs ∙ length-filter is_err xs in
    rw (well, faults) refl

-- the text of a file that was read
pub read_text : {E Z : Type 0} (shelf : List Almanac) (q : FileQuery) (bs : List ℕ) (xs : List (Result Series Fault)) (r : Result (Vec ℕ Z) E)
    → (file_read bs ≡ Ok (length (events_of bs))) × AllSay shelf xs (verdicts shelf 1 bs)
    → IfOk r (λ text. Body (Said shelf q) (verdicts_in xs) (vec_items text)) → IfOk r (λ text. FileText shelf q bs (vec_items text))
read_text shelf q bs xs (Err e) read says = tt
read_text shelf q bs xs (Ok text) read says =
    subst (λ r. Answer shelf q bs r (vec_items text)) (sym read.0)
    (subst (λ vs. Body (Said shelf q) vs (vec_items text)) (all_said shelf xs (verdicts shelf 1 bs) read.1) says)
