-- How many events lines hold, line by line; there are no more of them than lines.
-- They stay: each is an induction, which the check does not make.
use Rattle.std.proofs.Common.{◌≡◌, ℕ, ◌+◌, ◌-◌, ◌^◌, ◌<◌, ◌≤◌, true, false, cond, List, [], ◌∷◌, length, Option, sym, refl, ap, ◌∙◌, arith}
use Rattle.std.proofs.lemmas.Bool.{cond_both}
use Rattle.lines.specs.declared.cursor.Cursor.{Cursor}
use Rattle.lines.specs.Lines.{Line}
use Rattle.lines.specs.View.{view}
use Rattle.lines.proofs.Few.{few_view}
use Rattle.components.proofs.Nesting.{after, on_begin, opens}
use Rattle.components.specs.Nest.{Kind, Begin, End, Other, kind, kinds, walk}
use Rattle.components.specs.Events.{Event, events, own, is_event}

by : ℕ → Kind → Line → List Line → List Event
by d k l ls =
    elim k [
      | Begin x ↦ cond (is_event d x) (record { place = l.place; lines = own 0 ls } ∷ events (d + 1) ls) (events (d + 1) ls)
      | End x ↦ events (d - 1) ls
      | Other ↦ events d ls
    ]

-- by what the first line is
pub events_begin : (d : ℕ) (l : Line) (ls : List Line) (y : List ℕ) → kind l.text ≡ Begin y → events d (l ∷ ls) ≡ cond (is_event d y) (record { place = l.place; lines = own 0 ls } ∷ events (d + 1) ls) (events (d + 1) ls)
events_begin d l ls y e = rw (events, e) refl

pub events_end : (d : ℕ) (l : Line) (ls : List Line) (y : List ℕ) → kind l.text ≡ End y → events d (l ∷ ls) ≡ events (d - 1) ls
events_end d l ls y e = rw (events, e) refl

pub events_other : (d : ℕ) (l : Line) (ls : List Line) → kind l.text ≡ Other → events d (l ∷ ls) ≡ events d ls
events_other d l ls e = rw (events, e) refl

count_begin : (d : ℕ) (l : Line) (ls : List Line) (y : List ℕ) → kind l.text ≡ Begin y → length (events d (l ∷ ls)) ≡ cond (is_event d y) 1 0 + length (events (d + 1) ls)
count_begin d l ls y e =
    ap length (events_begin d l ls y e)
    ∙ elim (is_event d y) as (λ b. length (cond b (record { place = l.place; lines = own 0 ls } ∷ events (d + 1) ls) (events (d + 1) ls)) ≡ cond b 1 0 + length (events (d + 1) ls))
    [ true ↦ omega arith | false ↦ omega arith ]

few_events : (d : ℕ) (ls : List Line) → length (events d ls) ≤ length ls
unfolding by
few_events d [] = omega arith
few_events d (l ∷ ls) =
    elim (kind l.text) as (λ k. length (by d k l ls) ≤ length (l ∷ ls)) [
      | Begin x ↦ cond_both (is_event d x) (record { place = l.place; lines = own 0 ls } ∷ events (d + 1) ls) (events (d + 1) ls) (λ es. length es ≤ length (l ∷ ls)) (λ _. omega (arith, few_events (d + 1) ls)) (λ _. omega (arith, few_events (d + 1) ls))
      | End x ↦ omega (arith, few_events (d - 1) ls)
      | Other ↦ omega (arith, few_events d ls)
    ]

pub few : (d : ℕ) (c : Cursor) → length (events d (view c)) ≤ 2 ^ 63 + 1
few d c = omega (arith, few_events d (view c), few_view c)

-- a line that is a BEGIN, before the lines of what it begins, in a body inside d others
pub begin_walk : (vs ws later : List Line) (l : Line) (d e : ℕ) (x y z : List ℕ) (m : Option (List Kind)) → vs ≡ l ∷ later → ws ≡ later → kind l.text ≡ Begin y
    → e ≡ d + 1 → e < 8 → z ≡ y → m ≡ walk (7 - e) z [] (kinds ws) → walk (7 - d) x [] (kinds vs) ≡ after m (λ rest. walk (7 - d) x [] rest)
begin_walk vs ws later l d e x y z m f g k s h n w =
    ap (λ us. walk (7 - d) x [] (kinds us)) (f ∙ ap (λ ls. l ∷ ls) (sym g)) ∙ on_begin (kind l.text) (kinds ws) (7 - d) x y m k (w ∙ opens d e y z (kinds ws) s h n)

pub begin_count : (vs ws later : List Line) (l : Line) (d : ℕ) (y : List ℕ) → vs ≡ l ∷ later → ws ≡ later → kind l.text ≡ Begin y → length (events d vs) ≡ cond (is_event d y) 1 0 + length (events (d + 1) ws)
begin_count vs ws later l d y f g k = ap (λ us. length (events d us)) (f ∙ ap (λ ls. l ∷ ls) (sym g)) ∙ count_begin d l ws y k
