-- Tables whose first places are written, one more place, and what becomes of one more event.
use Rattle.std.proofs.Common.{◌≡◌, ℕ, suc, ◌+◌, ◌<◌, List, [], ◌∷◌, ◌++◌, length, drop, set, get_or, Ok, Err, Result, sym, refl, ap, ◌∙◌, arith}
use lib.Seq.{append_snoc}
use Rattle.std.proofs.lemmas.List.{drop_more, length_push}
use Rattle.std.proofs.Math.Seq.{set-append_seam}
use Rattle.calendar.specs.Sheets.{Almanac}
use Rattle.series.specs.declared.record.Series.{Series}
use Rattle.series.specs.Record.{Accepted, Keeps}
use Rattle.icalendar.specs.declared.fault.Fault.{Fault}
use Rattle.runs.specs.Plans.{accepted_in, entries_in}
use Rattle.intake.specs.Stored.{AllKeep, entry}

-- one more accepted event
pub accepted_more : (done : List (Result Accepted Fault)) (e : Accepted) → accepted_in (done ++ Ok e ∷ []) ≡ accepted_in done ++ e ∷ []
accepted_more [] e = refl
accepted_more (Ok a ∷ done) e = ap (λ es. a ∷ es) (accepted_more done e)
accepted_more (Err f ∷ done) e = accepted_more done e

pub accepted_same : (done : List (Result Accepted Fault)) (f : Fault) → accepted_in (done ++ Err f ∷ []) ≡ accepted_in done
accepted_same [] f = refl
accepted_same (Ok a ∷ done) f = ap (λ es. a ∷ es) (accepted_same done f)
accepted_same (Err g ∷ done) f = accepted_same done f

module _ (file : ℕ) where
  pub entries_same : (k : ℕ) (done : List (Result Accepted Fault)) (e : Accepted) → entries_in file k (done ++ Ok e ∷ []) ≡ entries_in file k done
  entries_same k [] e = refl
  entries_same k (Ok a ∷ done) e = entries_same (k + 1) done e
  entries_same k (Err f ∷ done) e = ap (λ es. entry file k f ∷ es) (entries_same (k + 1) done e)

  -- one more event with a fault; its number follows those of the events before it
  pub entries_more : (k : ℕ) (done : List (Result Accepted Fault)) (f : Fault)
      → entries_in file k (done ++ Err f ∷ []) ≡ entries_in file k done ++ entry file (k + (length (accepted_in done) + length (entries_in file k done))) f ∷ []
  entries_more k [] f = ap (λ n. entry file n f ∷ []) (omega arith)
  entries_more k (Ok a ∷ done) f =
      let n : k + 1 + (length (accepted_in done) + length (entries_in file (k + 1) done)) ≡ k + (length (accepted_in (Ok a ∷ done)) + length (entries_in file (k + 1) done)) = omega arith in
      entries_more (k + 1) done f ∙ ap (λ n. entries_in file (k + 1) done ++ entry file n f ∷ []) n
  entries_more k (Err g ∷ done) f =
      let n : k + 1 + (length (accepted_in done) + length (entries_in file (k + 1) done)) ≡ k + (length (accepted_in done) + length (entries_in file k (Err g ∷ done))) = omega arith in
      ap (λ es. entry file k g ∷ es) (entries_more (k + 1) done f ∙ ap (λ n. entries_in file (k + 1) done ++ entry file n f ∷ []) n)

-- one more record keeps one more event
pub all_keep_more : (shelf : List Almanac) (ss : List Series) (es : List Accepted) (s : Series) (e : Accepted) → AllKeep shelf ss es → Keeps shelf s e → AllKeep shelf (ss ++ s ∷ []) (es ++ e ∷ [])
all_keep_more shelf [] [] s e h k = (k, tt)
all_keep_more shelf [] (f ∷ es) s e h k = absurd h
all_keep_more shelf (t ∷ ss) [] s e h k = absurd h
all_keep_more shelf (t ∷ ss) (f ∷ es) s e h k = (h.0, all_keep_more shelf ss es s e h.1 k)

pub as_many : (shelf : List Almanac) (ss : List Series) (es : List Accepted) → AllKeep shelf ss es → length ss ≡ length es
as_many shelf [] [] h = refl
as_many shelf [] (e ∷ es) h = absurd h
as_many shelf (s ∷ ss) [] h = absurd h
as_many shelf (s ∷ ss) (e ∷ es) h = ap suc (as_many shelf ss es h.1)

-- each event makes one record or one entry
pub one_each : (file k : ℕ) (done : List (Result Accepted Fault)) → length done ≡ length (accepted_in done) + length (entries_in file k done)
one_each file k [] = refl
one_each file k (Ok a ∷ done) = let i = one_each file (k + 1) done in omega (arith, i)
one_each file k (Err f ∷ done) = let i = one_each file (k + 1) done in omega (arith, i)

-- a place written directly past the first ones
pub written_next : {X : Type 0} (xs old : List X) (n : ℕ) (x : X) → n ≡ length xs → n < length old → set (xs ++ drop n old) n x ≡ (xs ++ x ∷ []) ++ drop (length (xs ++ x ∷ [])) old
written_next xs old n x e h =
    let next : n + 1 ≡ length (xs ++ x ∷ []) = omega (arith, length_push xs x) in
    ap (λ l. set (xs ++ l) n x) (drop_more old n x h)
    ∙ ap (λ k. set (xs ++ (get_or old n x ∷ drop (n + 1) old)) k x) e
    ∙ set-append_seam xs (get_or old n x) (drop (n + 1) old) x
    ∙ sym (append_snoc xs x (drop (n + 1) old))
    ∙ ap (λ k. (xs ++ x ∷ []) ++ drop k old) next
