-- The law of right runs.
use Rattle.std.proofs.Common.{◌≡◌, ℕ, suc, ◌+◌, ◌<◌, ◌≤◌, ◌⊎◌, List, [], ◌∷◌, length, map, Some, None, Option, sym, refl, ap, ◌∙◌, subst, inl, inr, arith}
use Rattle.std.proofs.lemmas.Bool.{cond_both, ltb-true, ltb-false}
use Rattle.std.proofs.lemmas.List.Elements.{All-weaker, All-contains_itself}
use Rattle.calendar.specs.Sheets.{Almanac}
use Rattle.series.specs.Record.{days_given}
use Rattle.icalendar.specs.Verdicts.{verdicts}
use Rattle.owed.specs.declared.line.Line.{Line}
use Rattle.owed.specs.Lines.{line, NotAfter}
use Rattle.owed.specs.Owed.{GivenBy, owed}
use Rattle.owed.proofs.Order.{not_after_itself}
use Rattle.owed.proofs.Owing.{first_owed, first_is_least}
use Rattle.runs.specs.declared.calls.Places.{Places}
use Rattle.runs.specs.Plans.{accepted_in, sought as sought_mark}
use Rattle.runs.specs.Runs.{loaded, sought, drawn, refused, mismatched, Run, fresh, ◌▸◌, files, accepted, mark, lines_drawn, sets, owed_after, then_draws}
use Rattle.runs.specs.Law.{first_of, draws, Went, LineOf, Jumped, Late, EachRight, Law}
use Rattle.runs.proofs.Standing.{length_sets, sets_loaded}
use Rattle.runs.proofs.Kept.{Kept, kept_fresh, kept_loaded, kept_sought, kept_drawn}

-- the mark after a seek is the later of the mark that was and the one before the day's lines
pub sought_on : (m : Line) (day : ℕ) → NotAfter m (sought_mark m day) × NotAfter (line day 0) (sought_mark m day) × ((sought_mark m day ≡ m) ⊎ (sought_mark m day ≡ line day 0))
sought_on m day = cond_both _ _ _ (λ n. NotAfter m n × NotAfter (line day 0) n × ((n ≡ m) ⊎ (n ≡ line day 0)))
    (λ t. let lt : m.day < day = ltb-true m.day day t in ((omega arith, λ s. absurd (omega arith)), (omega arith, λ s. omega arith), inr refl))
    (λ t. let le : day ≤ m.day = ltb-false m.day day t in (not_after_itself m, (le, λ s. omega arith), inl refl))

-- of the lines owed the first is drawn
drawn_first : (l : Line) (ls : List Line) → Some l ≡ first_of ls → (rest : List Line) × (ls ≡ l ∷ rest)
drawn_first l [] h = cc
drawn_first l (x ∷ rest) h = (rest, cc)

module _ (shelf : List Almanac) (first last : ℕ) (places : Places) where
  -- ── by one step after another ──

  abbrev KeptBy : Run → Type 0
  KeptBy run = Kept first last (sets shelf run) (mark first run) (lines_drawn run) (Went run) (Jumped shelf first last places run) (Late shelf first last places run)

  by_load : (run : Run) (bs : List ℕ) (n m : ℕ) → KeptBy run → KeptBy (run ▸ loaded bs n m)
  by_load run bs n m k =
      subst
      (λ s. Kept first last s (mark first run) (lines_drawn run) (Went run) (Jumped shelf first last places run)
      (λ l. (GivenBy first last s l × (length (accepted shelf run) < l.series) × NotAfter l (mark first run)) ⊎ Late shelf first last places run l))
      (sym (sets_loaded shelf run bs n m))
      (kept_loaded k (map (days_given shelf) (accepted_in (verdicts shelf (files run + 1) bs))) (length (accepted shelf run)) (sym (length_sets shelf run)))

  by_seek : (run : Run) (day : ℕ) (stands : Line) → KeptBy run → KeptBy (run ▸ sought day stands)
  by_seek run day stands k = let w = sought_on (mark first run) day in kept_sought k day (sought_mark (mark first run) day) w.0 w.1 w.2

  by_draw : (run : Run) (l : Line) → Some l ≡ first_of (owed_after shelf first last run) → KeptBy run → KeptBy (run ▸ drawn (Some l))
  by_draw run l h k =
      let e = drawn_first l (owed_after shelf first last run) h in
      let w = first_is_least first last (sets shelf run) (mark first run) l e.0 e.1 in
      kept_drawn k l w.0 w.1 w.2

  kept_by : (run : Run) → EachRight shelf first last places run → KeptBy run
  kept_by fresh e = kept_fresh first last
  kept_by (run ▸ loaded bs n m) e = by_load run bs n m (kept_by run e.1)
  kept_by (run ▸ sought day stands) e = by_seek run day stands (kept_by run e.1)
  kept_by (run ▸ drawn None) e = kept_by run e.1
  kept_by (run ▸ drawn (Some l)) e = by_draw run l e.0.1 (kept_by run e.1)
  kept_by (run ▸ refused request question) e = kept_by run e.1
  kept_by (run ▸ mismatched) e = absurd e.0

  -- ── draws alone ──

  right_before : (answers : List (Option Line)) (run : Run) → EachRight shelf first last places (then_draws run answers) → EachRight shelf first last places run
  right_before [] run e = e
  right_before (answer ∷ answers) run e = (right_before answers (run ▸ drawn answer) e).1

  -- a draw answers the first of the lines owed, and leaves the others
  draw_leaves : (run : Run) (answer : Option Line) (answers : List (Option Line)) (ls : List Line) → owed_after shelf first last run ≡ ls → answer ≡ first_of ls
      → answers ≡ draws (length answers) (owed_after shelf first last (run ▸ drawn answer)) → answer ∷ answers ≡ draws (suc (length answers)) ls
  draw_leaves run None answers [] e a i = ap (λ xs. None ∷ xs) (i ∙ ap (draws (length answers)) e)
  draw_leaves run (Some l) answers [] e a i = cc
  draw_leaves run None answers (x ∷ ls) e a i = cc
  draw_leaves run (Some l) answers (x ∷ ls) e a i =
      let w = first_is_least first last (sets shelf run) (mark first run) x ls e in
      let f = first_owed first last (sets shelf run) (mark first run) x w.0 w.1 w.2 in
      let same : l ≡ x = cc in
      let rest : owed first last (sets shelf run) l ≡ ls = ap (owed first last (sets shelf run)) same ∙ cc in
      λ j. Some (same j) ∷ (i ∙ ap (draws (length answers)) rest) j

  drawn_in_turn : (answers : List (Option Line)) (run : Run) → EachRight shelf first last places (then_draws run answers) → answers ≡ draws (length answers) (owed_after shelf first last run)
  drawn_in_turn [] run e = refl
  drawn_in_turn (answer ∷ answers) run e =
      draw_leaves run answer answers (owed_after shelf first last run) refl (right_before answers (run ▸ drawn answer) e).0.1 (drawn_in_turn answers (run ▸ drawn answer) e)

  -- ── the law ──

  pub keeps_the_law : (run : Run) → EachRight shelf first last places run → Law shelf first last places run
  keeps_the_law run e =
      let k = kept_by run e in
      record {
        lines_rise = record { rise = k.rise; given = All-weaker _ (LineOf shelf first last places run) (λ l d. (k.only l (inl d)).0) (lines_drawn run) (All-contains_itself (lines_drawn run)) };
        mark_divides = record {
          stands = record { after_first = k.after_first; after_drawn = λ l d. (k.only l (inl d)).1; after_sought = k.after_sought; is_one = k.is_one };
          passed = k.passed;
          only = k.only;
        };
        nothing_is_lost = λ earlier answers h. drawn_in_turn answers earlier (subst (EachRight shelf first last places) h e);
        each_right = e;
      }
