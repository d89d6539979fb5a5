-- Reading a file event by event. The library has no lemmas of verdicts.
use Rattle.std.proofs.Common.{◌≡◌, ◌≤◌, ℕ, Bool, true, false, cond, leb, List, [], ◌∷◌, ◌++◌, map, length, Some, None, Ok, Option, Result, sym, refl, ap, ◌∙◌, arith}
use Rattle.std.proofs.lemmas.Bool.{leb-true}
use lib.Seq.{append_snoc}
use Rattle.calendar.specs.Sheets.{Almanac}
use Rattle.components.specs.Events.{Event}
use Rattle.series.specs.declared.record.Series.{Series}
use Rattle.series.specs.Record.{Accepted}
use Rattle.icalendar.specs.declared.fault.Fault.{Fault}
use Rattle.refusals.specs.declared.asked.FileQuestion.{FileQuestion}
use Rattle.refusals.specs.declared.asked.FileQuestion.TheVariants.{Size}
use Rattle.icalendar.specs.Files.{asked, first_failed, unless_failed, file_read, events_of}
use Rattle.icalendar.specs.Verdicts.{Says}
use Rattle.icalendar.specs.Read.{AllSay}

-- one more says its verdict
say_more : (shelf : List Almanac) (xs : List (Result Series Fault)) (ys : List (Result Accepted Fault)) (x : Result Series Fault) (y : Result Accepted Fault) → AllSay shelf xs ys → Says shelf x y → AllSay shelf (xs ++ x ∷ []) (ys ++ y ∷ [])
say_more shelf [] [] x y all one = (one, tt)
say_more shelf [] (w ∷ ys) x y all one = absurd all
say_more shelf (v ∷ xs) [] x y all one = absurd all
say_more shelf (v ∷ xs) (w ∷ ys) x y all one = (all.0, say_more shelf xs ys x y all.1 one)

pub say_next : (shelf : List Almanac) (xs zs : List (Result Series Fault)) (ys : List (Result Accepted Fault)) (x : Result Series Fault) (y : Result Accepted Fault) → zs ≡ xs ++ x ∷ [] → AllSay shelf xs ys → Says shelf x y → AllSay shelf zs (ys ++ y ∷ [])
say_next shelf xs zs ys x y e all one = rw e (say_more shelf xs ys x y all one)

-- the verdicts so far, the one on the next event, and those on the events to come
pub on_to_next : (judge : Event → Result Accepted Fault) (done all : List (Result Accepted Fault)) (e : Event) (here later es : List Event) → here ≡ e ∷ later → es ≡ later → done ++ map judge here ≡ all → (done ++ judge e ∷ []) ++ map judge es ≡ all
on_to_next judge done all e here later es h l whole =
    append_snoc done (judge e) (map judge es) ∙ ap (λ fs. done ++ (judge e ∷ map judge fs)) l ∙ ap (λ fs. done ++ map judge fs) (sym h) ∙ whole

-- a file that fails no question
not_failed : (o : Option FileQuestion) (m n : ℕ) → Ok n ≡ unless_failed o m → o ≡ None
not_failed None m n e = refl
not_failed (Some q) m n e = absurd (let z : ◌≡◌ {A = ℕ} 0 1 = cc in omega arith)

pub counted : (bs : List ℕ) (n : ℕ) → Ok n ≡ file_read bs → file_read bs ≡ Ok (length (events_of bs))
counted bs n e = ap (λ o. unless_failed o (length (events_of bs))) (not_failed (first_failed asked bs) (length (events_of bs)) n e)

first_passed : (b : Bool) (rest : Option FileQuestion) → cond b rest (Some Size) ≡ None → b ≡ true
first_passed true rest e = refl
first_passed false rest e = absurd (let z : ◌≡◌ {A = ℕ} 0 1 = cc in omega arith)

-- it has as few bytes as a file may have
pub small : (bs : List ℕ) (n : ℕ) → Ok n ≡ file_read bs → length bs ≤ 60000
small bs n e = leb-true (length bs) 60000 (first_passed (leb (length bs) 60000) _ (not_failed (first_failed asked bs) (length (events_of bs)) n e))
