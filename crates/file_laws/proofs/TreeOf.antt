-- A file's components: the walk over its lines and the tree that they make.
-- They stay: each is an induction, which the check does not make.
use Rattle.std.proofs.Common.{◌≡◌, ℕ, zero, suc, ◌+◌, ◌-◌, ◌<◌, ◌≤◌, Bool, true, false, cond, eqb, List, [], ◌∷◌, ◌++◌, Some, None, codes, sym, refl, ap, ◌∙◌, append_assoc, append-nil, arith}
use Rattle.std.proofs.lemmas.Bool.{cond-true, cond-false, cond_both, and_left, and_right, and_from, and_parts, false≢true, ne_eqb}
use Rattle.text.specs.Letters.{alike, same}
use Rattle.lines.specs.Lines.{Line}
use Rattle.lines.specs.Property.{is_named, name, value}
use Rattle.components.specs.Nest.{Begin, End, Other, kind, kinds, walk, none_left, calendar, one_calendar}
use Rattle.components.specs.Events.{Event, own, events, events_in, is_event}
use Rattle.components.proofs.Counting.{events_begin, events_end, events_other}
use Rattle.file_laws.specs.Tree.{Body, Done, Property, Component, held, Closes, Nests, Calendar, Sound, lines, own_lines, events_of, Components}

-- an END is no BEGIN
not_both : (n : List ℕ) → same (codes "END") n ≡ true → same (codes "BEGIN") n ≡ false
not_both [] e = refl
not_both (a ∷ []) e = and_right (alike 66 a) false refl
not_both (a ∷ b ∷ []) e = and_right (alike 66 a) _ (and_right (alike 69 b) false refl)
not_both (a ∷ b ∷ c ∷ []) e = and_right (alike 66 a) _ (and_right (alike 69 b) _ (and_right (alike 71 c) false refl))
not_both (a ∷ b ∷ c ∷ d ∷ n) e =
    absurd (false≢true (and_parts (alike 68 c) false (and_parts (alike 78 b) _ (and_parts (alike 69 a) _ e).1).1).1)

-- what a line is, by its name
is_begin : {begin end : Line} → Closes begin end → kind begin.text ≡ Begin (value begin.text)
is_begin {begin} c = cond-true (is_named (codes "BEGIN") begin.text) _ _ c.begins

is_end : (l : Line) → is_named (codes "END") l.text ≡ true → kind l.text ≡ End (value l.text)
is_end l e = cond-false (is_named (codes "BEGIN") l.text) _ _ (not_both (name l.text) e) ∙ cond-true (is_named (codes "END") l.text) _ _ e

is_other : (l : Line) → is_named (codes "BEGIN") l.text ≡ false → is_named (codes "END") l.text ≡ false → kind l.text ≡ Other
is_other l e f = cond-false (is_named (codes "BEGIN") l.text) _ _ e ∙ cond-false (is_named (codes "END") l.text) _ _ f

-- the walk passes over a body that nests
walks : (b : Body) (n : ℕ) (x : List ℕ) (outer : List (List ℕ)) (ls : List Line) → Nests n b → walk n x outer (kinds (held b ++ ls)) ≡ walk n x outer (kinds ls)
walks Done n x outer ls h = refl
walks (Property l b) n x outer ls h = ap (λ k. walk n x outer (k ∷ kinds (held b ++ ls))) (is_other l h.0 h.1) ∙ walks b n x outer ls h.2
walks (Component begin inside end b) zero x outer ls h = absurd h
walks (Component begin inside end b) (suc n) x outer ls h =
    ap (λ k. walk (suc n) x outer (k ∷ kinds ((held inside ++ (end ∷ held b)) ++ ls))) (is_begin h.0)
    ∙ ap (λ ms. walk n (value begin.text) (x ∷ outer) (kinds ms)) (append_assoc (held inside) (end ∷ held b) ls)
    ∙ walks inside n (value begin.text) (x ∷ outer) (end ∷ (held b ++ ls)) h.1
    ∙ ap (λ k. walk n (value begin.text) (x ∷ outer) (k ∷ kinds (held b ++ ls))) (is_end end h.0.ends)
    ∙ cond-true (same (value end.text) (value begin.text)) _ _ h.0.fits
    ∙ walks b (suc n) x outer ls h.2

stands : (c : Calendar) → Sound c → one_calendar (lines c) ≡ true
stands c h =
    let x = value c.begin.text in
    ap (λ k. calendar (k ∷ kinds (held c.body ++ (c.end ∷ [])))) (is_begin h.0)
    ∙ and_from (same (codes "VCALENDAR") x) _ h.1
    (ap none_left
    (walks c.body 7 x [] (c.end ∷ []) h.2
    ∙ ap (λ k. walk 7 x [] (k ∷ [])) (is_end c.end h.0.ends)
    ∙ cond-true (same (value c.end.text) x) _ _ h.0.fits))

-- Back: lines that close the component x and those around it, each a body and an END
EndedBy : List ℕ → Line → Type 0
EndedBy x l = (is_named (codes "END") l.text ≡ true) × (same (value l.text) x ≡ true)

Closing : ℕ → List ℕ → List (List ℕ) → List Line → Type 0
Closing n x [] ls = (b : Body) × (l : Line) × Nests n b × EndedBy x l × (ls ≡ held b ++ (l ∷ []))
Closing n x (w ∷ outer) ls = (b : Body) × (l : Line) × (r : List Line) × Nests n b × EndedBy x l × Closing (suc n) w outer r × (ls ≡ held b ++ (l ∷ r))

at_other : (n : ℕ) (x : List ℕ) (outer : List (List ℕ)) (l : Line) (ls : List Line) → is_named (codes "BEGIN") l.text ≡ false → is_named (codes "END") l.text ≡ false → Closing n x outer ls → Closing n x outer (l ∷ ls)
unfolding Closing
at_other n x [] l ls e f (b, m, h, k, j) = (Property l b, m, (e, f, h), k, ap (λ ms. l ∷ ms) j)
at_other n x (w ∷ outer) l ls e f (b, m, r, h, k, c, j) = (Property l b, m, r, (e, f, h), k, c, ap (λ ms. l ∷ ms) j)

at_end : (n : ℕ) (x : List ℕ) (outer : List (List ℕ)) (l : Line) (ls : List Line) → is_named (codes "END") l.text ≡ true → ((w : List ℕ) (o : List (List ℕ)) → none_left (walk (suc n) w o (kinds ls)) ≡ true → Closing (suc n) w o ls) → none_left (walk n x outer (End (value l.text) ∷ kinds ls)) ≡ true → Closing n x outer (l ∷ ls)
unfolding Closing EndedBy
at_end n x [] l [] e ih f =
    cond_both (same (value l.text) x) (Some []) None (λ o. none_left o ≡ true → Closing n x [] (l ∷ []))
    (λ y _. (Done, l, tt, (e, y), refl)) (λ _ g. absurd (false≢true g)) f
at_end n x [] l (m ∷ ls) e ih f =
    cond_both (same (value l.text) x) (Some (kinds (m ∷ ls))) None (λ o. none_left o ≡ true → Closing n x [] (l ∷ m ∷ ls))
    (λ _ g. absurd (false≢true g)) (λ _ g. absurd (false≢true g)) f
at_end n x (w ∷ outer) l ls e ih f =
    cond_both (same (value l.text) x) (walk (suc n) w outer (kinds ls)) None (λ o. none_left o ≡ true → Closing n x (w ∷ outer) (l ∷ ls))
    (λ y g. (Done, l, ls, tt, (e, y), ih w outer g, refl)) (λ _ g. absurd (false≢true g)) f

around : (n : ℕ) (x : List ℕ) (outer : List (List ℕ)) (l : Line) (ls : List Line) → is_named (codes "BEGIN") l.text ≡ true → Closing n (value l.text) (x ∷ outer) ls → Closing (suc n) x outer (l ∷ ls)
unfolding Closing EndedBy
around n x [] l ls e (b, m, r, h, k, (c, d, i, t, u), j) = (
  Component l b m c,
  d,
  (record { begins = e; ends = k.0; fits = k.1 }, h, i),
  t,
  ap (λ ms. l ∷ ms) (j ∙ ap (λ ms. held b ++ (m ∷ ms)) u ∙ sym (append_assoc (held b) (m ∷ held c) (d ∷ []))),
)
around n x (w ∷ outer) l ls e (b, m, r, h, k, (c, d, q, i, t, v, u), j) = (
  Component l b m c,
  d,
  q,
  (record { begins = e; ends = k.0; fits = k.1 }, h, i),
  t,
  v,
  ap (λ ms. l ∷ ms) (j ∙ ap (λ ms. held b ++ (m ∷ ms)) u ∙ sym (append_assoc (held b) (m ∷ held c) (d ∷ q))),
)

at_begin : (n : ℕ) (x : List ℕ) (outer : List (List ℕ)) (l : Line) (ls : List Line) → is_named (codes "BEGIN") l.text ≡ true → ((m : ℕ) (o : List (List ℕ)) → none_left (walk m (value l.text) o (kinds ls)) ≡ true → Closing m (value l.text) o ls) → none_left (walk n x outer (Begin (value l.text) ∷ kinds ls)) ≡ true → Closing n x outer (l ∷ ls)
at_begin zero x outer l ls e ih f = absurd (false≢true f)
at_begin (suc n) x outer l ls e ih f = around n x outer l ls e (ih n (x ∷ outer) f)

closed : (ls : List Line) (n : ℕ) (x : List ℕ) (outer : List (List ℕ)) → none_left (walk n x outer (kinds ls)) ≡ true → Closing n x outer ls
closed [] n x outer e = absurd (false≢true e)
closed (l ∷ ls) n x outer e =
    cond_both (is_named (codes "BEGIN") l.text) (Begin (value l.text)) (cond (is_named (codes "END") l.text) (End (value l.text)) Other)
    (λ k. none_left (walk n x outer (k ∷ kinds ls)) ≡ true → Closing n x outer (l ∷ ls))
    (λ y. at_begin n x outer l ls y (λ m o. closed ls m (value l.text) o))
    (λ no. cond_both (is_named (codes "END") l.text) (End (value l.text)) Other (λ k. none_left (walk n x outer (k ∷ kinds ls)) ≡ true → Closing n x outer (l ∷ ls))
    (λ y. at_end n x outer l ls y (λ w o. closed ls (suc n) w o))
    (λ none f. at_other n x outer l ls no none (closed ls n x outer f)))
    e

only : (ls : List Line) → one_calendar ls ≡ true → (c : Calendar) × Sound c × (ls ≡ lines c)
unfolding Closing EndedBy
only [] e = absurd (false≢true e)
only (l ∷ ls) e =
    cond_both (is_named (codes "BEGIN") l.text) (Begin (value l.text)) (cond (is_named (codes "END") l.text) (End (value l.text)) Other)
    (λ k. calendar (k ∷ kinds ls) ≡ true → (c : Calendar) × Sound c × (l ∷ ls ≡ lines c))
    (λ y f.
    let q = and_parts (same (codes "VCALENDAR") (value l.text)) _ f in
    let (b, m, h, k, j) = closed ls 7 (value l.text) [] q.1 in
    (record { begin = l; body = b; end = m }, (record { begins = y; ends = k.0; fits = k.1 }, q.0, h), ap (λ ms. l ∷ ms) j))
    (λ _. cond_both (is_named (codes "END") l.text) (End (value l.text)) Other (λ k. calendar (k ∷ kinds ls) ≡ true → (c : Calendar) × Sound c × (l ∷ ls ≡ lines c))
    (λ _ f. absurd (false≢true f)) (λ _ f. absurd (false≢true f)))
    e

-- an event's own lines, line by line
own_begin : (d : ℕ) (l : Line) (ls : List Line) (y : List ℕ) → kind l.text ≡ Begin y → own d (l ∷ ls) ≡ own (d + 1) ls
own_begin d l ls y e = rw (own, e) refl

own_end : (d : ℕ) (l : Line) (ls : List Line) (y : List ℕ) → kind l.text ≡ End y → own d (l ∷ ls) ≡ cond (eqb d 0) [] (own (d - 1) ls)
own_end d l ls y e = rw (own, e) refl

own_other : (d : ℕ) (l : Line) (ls : List Line) → kind l.text ≡ Other → own d (l ∷ ls) ≡ cond (eqb d 0) (l ∷ own d ls) (own d ls)
own_other d l ls e = rw (own, e) refl

-- a body inside an inner component is passed over
own_past : (b : Body) (n d : ℕ) (ls : List Line) → Nests n b → 0 < d → own d (held b ++ ls) ≡ own d ls
own_past Done n d ls h p = refl
own_past (Property l b) n d ls h p =
    own_other d l (held b ++ ls) (is_other l h.0 h.1) ∙ cond-false (eqb d 0) _ _ (ne_eqb d 0 (λ e. omega arith)) ∙ own_past b n d ls h.2 p
own_past (Component begin inside end b) zero d ls h p = absurd h
own_past (Component begin inside end b) (suc n) d ls h p =
    let k : (d + 1) - 1 ≡ d = omega arith in
    own_begin d begin ((held inside ++ (end ∷ held b)) ++ ls) (value begin.text) (is_begin h.0)
    ∙ ap (own (d + 1)) (append_assoc (held inside) (end ∷ held b) ls)
    ∙ own_past inside n (d + 1) (end ∷ (held b ++ ls)) h.1 (omega arith)
    ∙ own_end (d + 1) end (held b ++ ls) (value end.text) (is_end end h.0.ends)
    ∙ cond-false (eqb (d + 1) 0) _ _ (ne_eqb (d + 1) 0 (λ e. omega arith))
    ∙ ap (λ m. own m (held b ++ ls)) k
    ∙ own_past b (suc n) d ls h.2 p

own_is : (b : Body) (n : ℕ) (end : Line) (ls : List Line) → Nests n b → is_named (codes "END") end.text ≡ true → own 0 (held b ++ (end ∷ ls)) ≡ own_lines b
own_is Done n end ls h e = own_end 0 end ls (value end.text) (is_end end e)
own_is (Property l b) n end ls h e = own_other 0 l (held b ++ (end ∷ ls)) (is_other l h.0 h.1) ∙ ap (λ ms. l ∷ ms) (own_is b n end ls h.2 e)
own_is (Component begin inside close b) zero end ls h e = absurd h
own_is (Component begin inside close b) (suc n) end ls h e =
    own_begin 0 begin ((held inside ++ (close ∷ held b)) ++ (end ∷ ls)) (value begin.text) (is_begin h.0)
    ∙ ap (own 1) (append_assoc (held inside) (close ∷ held b) (end ∷ ls))
    ∙ own_past inside n 1 (close ∷ (held b ++ (end ∷ ls))) h.1 (omega arith)
    ∙ own_end 1 close (held b ++ (end ∷ ls)) (value close.text) (is_end close h.0.ends)
    ∙ own_is b (suc n) end ls h.2 e

-- no event begins further inside
events_past : (b : Body) (n d : ℕ) (ls : List Line) → Nests n b → 2 ≤ d → events d (held b ++ ls) ≡ events d ls
events_past Done n d ls h p = refl
events_past (Property l b) n d ls h p = events_other d l (held b ++ ls) (is_other l h.0 h.1) ∙ events_past b n d ls h.2 p
events_past (Component begin inside end b) zero d ls h p = absurd h
events_past (Component begin inside end b) (suc n) d ls h p =
    let k : (d + 1) - 1 ≡ d = omega arith in
    events_begin d begin ((held inside ++ (end ∷ held b)) ++ ls) (value begin.text) (is_begin h.0)
    ∙ cond-false (is_event d (value begin.text)) _ _ (and_left (eqb d 1) (same (codes "VEVENT") (value begin.text)) (ne_eqb d 1 (λ e. omega arith)))
    ∙ ap (events (d + 1)) (append_assoc (held inside) (end ∷ held b) ls)
    ∙ events_past inside n (d + 1) (end ∷ (held b ++ ls)) h.1 (omega arith)
    ∙ events_end (d + 1) end (held b ++ ls) (value end.text) (is_end end h.0.ends)
    ∙ ap (λ m. events m (held b ++ ls)) k
    ∙ events_past b (suc n) d ls h.2 p

-- an event or none, before those after it
either : (t : Bool) (e : Event) (es fs gs : List Event) → gs ≡ es ++ fs → cond t (e ∷ gs) gs ≡ cond t (e ∷ es) es ++ fs
either true e es fs gs h = ap (λ hs. e ∷ hs) h
either false e es fs gs h = h

events_are : (b : Body) (n : ℕ) (ls : List Line) → Nests n b → events 1 (held b ++ ls) ≡ events_of b ++ events 1 ls
events_are Done n ls h = refl
events_are (Property l b) n ls h = events_other 1 l (held b ++ ls) (is_other l h.0 h.1) ∙ events_are b n ls h.2
events_are (Component begin inside end b) zero ls h = absurd h
events_are (Component begin inside end b) (suc n) ls h =
    let t : Bool = same (codes "VEVENT") (value begin.text) in
    let after : List Line = held inside ++ (end ∷ (held b ++ ls)) in
    let past : events 2 after ≡ events 1 (held b ++ ls) =
    events_past inside n 2 (end ∷ (held b ++ ls)) h.1 (omega arith) ∙ events_end 2 end (held b ++ ls) (value end.text) (is_end end h.0.ends) in
    events_begin 1 begin ((held inside ++ (end ∷ held b)) ++ ls) (value begin.text) (is_begin h.0)
    ∙ ap (λ ms. cond t (record { place = begin.place; lines = own 0 ms } ∷ events 2 ms) (events 2 ms)) (append_assoc (held inside) (end ∷ held b) ls)
    ∙ ap (λ ms. cond t (record { place = begin.place; lines = ms } ∷ events 2 after) (events 2 after)) (own_is inside n end (held b ++ ls) h.1 h.0.ends)
    ∙ either t (record { place = begin.place; lines = own_lines inside }) (events_of b) (events 1 ls) (events 2 after) (past ∙ events_are b (suc n) ls h.2)

all_events : (c : Calendar) → Sound c → events_in (lines c) ≡ events_of c.body
all_events c h =
    events_begin 0 c.begin (held c.body ++ (c.end ∷ [])) (value c.begin.text) (is_begin h.0)
    ∙ events_are c.body 7 (c.end ∷ []) h.2
    ∙ ap (λ es. events_of c.body ++ es) (events_end 1 c.end [] (value c.end.text) (is_end c.end h.0.ends))
    ∙ append-nil (events_of c.body)

pub components_law : Components
components_law = record { only = only; stands = stands; events = all_events }
