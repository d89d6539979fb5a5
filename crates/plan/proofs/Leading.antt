-- How each call goes on with any run.
use Rattle.std.proofs.Common.{◌≡◌, ℕ, true, List, [], ◌∷◌, ◌++◌, ◌+◌, ◌≤◌, length, Result, map, take, drop, Some, None, Option, sym, refl, ap, ◌∙◌, subst, arith}
use Rattle.std.proofs.lemmas.List.Elements.{All-nil}
use Rattle.calendar.specs.Sheets.{Almanac}
use Rattle.days.specs.Numbers.{in_range}
use Rattle.refusals.specs.declared.asked.PlanQuestion.{PlanQuestion}
use Rattle.series.specs.declared.record.Series.{Series}
use Rattle.series.specs.Record.{Accepted, days_given, Ready}
use Rattle.series.proofs.Kept.{same_days}
use Rattle.owed.specs.declared.line.Line.{Line}
use Rattle.owed.specs.Owed.{owed}
use Rattle.heads.specs.Heads.{sets_of, mark_after, FirstDrawn}
use Rattle.heads.proofs.Moved.{heads_opened}
use Rattle.intake.specs.Stored.{AllKeep, RecordsAdded, added}
use Rattle.intake.proofs.Added.{records_front, front_added, past_added}
use Rattle.intake.proofs.Growing.{as_many}
use Rattle.icalendar.specs.declared.fault.Fault.{Fault}
use Rattle.icalendar.specs.Verdicts.{verdicts}
use Rattle.plan.proofs.Asking.{load_fits}
use Rattle.runs.proofs.Standing.{standing_loaded}
use Rattle.runs.specs.declared.calls.Places.{Places}
use Rattle.runs.specs.declared.calls.Refusal.{Refusal}
use Rattle.runs.specs.declared.calls.Refusal.TheVariants.{Plan as OfPlan}
use Rattle.runs.specs.Plans.{Standing, accepted_in, entries_in, with_file, load_failed, with_mark, tables_failed, of_plan, seek_failed, sought as sought_mark}
use Rattle.runs.specs.Runs.{Run, fresh, Request, Step, a_draw, seek_to, load_of, loaded, files, sought, drawn, refused, ◌▸◌, accepted, entries, standing, owed_after, mark}
use Rattle.runs.specs.Law.{RightAfter, failed_after, first_of}
use Rattle.runs.proofs.Runs.{keeps_the_law}
use Rattle.plan.specs.declared.tables.Tables.{Tables}
use Rattle.plan.specs.Plans.{Held, Lent, lent, fresh_plan, places, places_of, records_in_use, sets_in_use, Own, Stands, LeadsOn, Untouched}

-- records that keep events give their days
pub kept_sets : (shelf : List Almanac) (ss : List Series) (es : List Accepted) → AllKeep shelf ss es → sets_of shelf ss ≡ map (days_given shelf) es
kept_sets shelf [] [] h = refl
kept_sets shelf [] (e ∷ es) h = absurd h
kept_sets shelf (s ∷ ss) [] h = absurd h
kept_sets shelf (s ∷ ss) (e ∷ es) h = λ i. same_days shelf s e h.0 i ∷ kept_sets shelf ss es h.1 i

module _ (shelf : List Almanac) (first last : ℕ) (room : Places) (run : Run) (s : Lent) (st : Stands shelf first last room run s) where
  -- the lines that are owed, by the plan and by the run
  pub same_owed : owed s.plan.standing.first s.plan.standing.last (sets_in_use shelf s) s.plan.standing.mark ≡ owed_after shelf first last run
  same_owed =
      let days = kept_sets shelf (records_in_use s) (accepted shelf run) st.records in
      λ i. owed (st.plan i).first (st.plan i).last (days i) (st.plan i).mark

  -- what is asked of the plan and its tables is asked after the run
  pub asked_after : {A : Type 0} (f : Standing → Places → A) → f s.plan.standing (places_of s) ≡ f (standing shelf first last run) room
  asked_after f = λ i. f (st.plan i) (st.rooms i)

  -- a step that is right, and leads the plan and its tables on
  pub led_on : (step : Step) (t : Lent) → RightAfter shelf first last room run step → t.plan.standing ≡ standing shelf first last (run ▸ step) → places_of t ≡ places_of s
      → AllKeep shelf (records_in_use t) (accepted shelf (run ▸ step)) → take t.plan.standing.faults t.faults ≡ entries shelf (run ▸ step) → Own shelf t → Stands shelf first last room (run ▸ step) t
  led_on step t right plan same records entered own = record {
    law = keeps_the_law shelf first last room (run ▸ step) (right, st.law.each_right);
    plan = plan;
    rooms = same ∙ st.rooms;
    records = records;
    entered = entered;
    own = own;
  }

-- ── a refused call ──

pub refused_on : (shelf : List Almanac) (request : Request) (question : Refusal) (s t : Lent) → t ≡ s
    → ((first last : ℕ) (room : Places) (run : Run) → Stands shelf first last room run s → failed_after shelf first last room run request ≡ Some question)
    → LeadsOn shelf (refused request question) s t
refused_on shelf request question s t same failed =
    λ first last room run st.
    subst (λ u. Stands shelf first last room (run ▸ refused request question) u) (sym same)
    (led_on shelf first last room run s st (refused request question) s (failed first last room run st) st.plan refl st.records st.entered st.own)

-- ── a draw ──

first_drawn : (first last : ℕ) (s : List _) (mark : Line) (answer : Option Line) → FirstDrawn first last s mark answer → answer ≡ first_of (owed first last s mark)
first_drawn first last s mark (Some l) h = sym (ap first_of h)
first_drawn first last s mark None h = sym (ap first_of h)

-- the mark after it, by the run
stands_after : (shelf : List Almanac) (first last : ℕ) (run : Run) (p : Standing) (answer : Option Line) → p ≡ standing shelf first last run → with_mark p (mark_after p.mark answer) ≡ standing shelf first last (run ▸ drawn answer)
stands_after shelf first last run p (Some l) e = ap (λ q. with_mark q l) e
stands_after shelf first last run p None e = e

pub drawn_on : (shelf : List Almanac) (answer : Option Line) (s t : Lent) → tables_failed s.plan.standing (places_of s) ≡ None
    → t.plan.standing ≡ with_mark s.plan.standing (mark_after s.plan.standing.mark answer) → t.series ≡ s.series → t.faults ≡ s.faults → length t.queue ≡ length s.queue
    → (Own shelf s → FirstDrawn s.plan.standing.first s.plan.standing.last (sets_in_use shelf s) s.plan.standing.mark answer) → (Own shelf s → Own shelf t)
    → LeadsOn shelf (drawn answer) s t
drawn_on shelf answer s t passed moved series faults long first_line own =
    λ first last room run st.
    let p = s.plan.standing in
    led_on shelf first last room run s st (drawn answer) t (
      ap of_plan (sym (asked_after shelf first last room run s st tables_failed) ∙ passed),
      first_drawn p.first p.last (sets_in_use shelf s) p.mark answer (first_line st.own) ∙ ap first_of (same_owed shelf first last room run s st),
    )
    (moved ∙ stands_after shelf first last run p answer st.plan)
    (λ i. record { series = length (series i); faults = length (faults i); queue = long i })
    (subst (λ ss. AllKeep shelf ss (accepted shelf run)) (sym (λ i. take (moved i).series (series i))) st.records)
    ((λ i. take (moved i).faults (faults i)) ∙ st.entered)
    (own st.own)

pub draw_refused : (shelf : List Almanac) (question : PlanQuestion) (s : Lent) → tables_failed s.plan.standing (places_of s) ≡ Some question → LeadsOn shelf (refused a_draw (OfPlan question)) s s
draw_refused shelf question s failed =
    refused_on shelf a_draw (OfPlan question) s s refl
    (λ first last room run st. ap of_plan (sym (asked_after shelf first last room run s st tables_failed) ∙ failed))

-- ── a fresh plan ──

pub opened_on : (shelf : List Almanac) (first last : ℕ) (tables : Tables) → in_range first ≡ true → in_range last ≡ true
    → Stands shelf first last (places tables) fresh (lent (fresh_plan first last) tables)
opened_on shelf first last tables opens closes = record {
  law = keeps_the_law shelf first last (places tables) fresh tt;
  plan = refl;
  rooms = refl;
  records = tt;
  entered = refl;
  own = record { ready = All-nil (Ready shelf); heads = heads_opened first last tables.queue.now opens closes };
}

-- ── a seek ──

pub seek_refused : (shelf : List Almanac) (day : ℕ) (question : PlanQuestion) (s : Lent) → seek_failed s.plan.standing (places_of s) day ≡ Some question → LeadsOn shelf (refused (seek_to day) (OfPlan question)) s s
seek_refused shelf day question s failed =
    refused_on shelf (seek_to day) (OfPlan question) s s refl
    (λ first last room run st. ap of_plan (sym (asked_after shelf first last room run s st (λ p t. seek_failed p t day)) ∙ failed))

pub sought_leads : (shelf : List Almanac) (day : ℕ) (stands : Line) (old new : Held) (tables : Tables) → seek_failed old.standing (places tables) day ≡ None → stands ≡ sought_mark old.standing.mark day
    → new.standing ≡ with_mark old.standing stands → (Own shelf (lent old tables) → Own shelf (lent new tables)) → LeadsOn shelf (sought day stands) (lent old tables) (lent new tables)
sought_leads shelf day stands old new tables passed answer moved own =
    λ first last room run st.
    let mark_is : stands ≡ mark first (run ▸ sought day stands) = answer ∙ ap (λ p. sought_mark p.mark day) st.plan in
    led_on shelf first last room run (lent old tables) st (sought day stands) (lent new tables)
    (ap of_plan (sym (asked_after shelf first last room run (lent old tables) st (λ p t. seek_failed p t day)) ∙ passed), mark_is)
    (moved ∙ (λ i. with_mark (st.plan i) (mark_is i)))
    refl
    (subst (λ ss. AllKeep shelf ss (accepted shelf run)) (sym (λ i. take (moved i).series tables.series.now)) st.records)
    ((λ i. take (moved i).faults tables.faults.now) ∙ st.entered)
    (own st.own)

-- ── a load ──

pub load_refused : (shelf : List Almanac) (bs : List ℕ) (question : Refusal) (s : Lent) → load_failed s.plan.standing (places_of s) bs ≡ Some question → LeadsOn shelf (refused (load_of bs) question) s s
load_refused shelf bs question s failed =
    refused_on shelf (load_of bs) question s s refl
    (λ first last room run st. sym (asked_after shelf first last room run s st (λ p t. load_failed p t bs)) ∙ failed)

all_keep_append : (shelf : List Almanac) (ss ts : List Series) (es fs : List Accepted) → AllKeep shelf ss es → AllKeep shelf ts fs → AllKeep shelf (ss ++ ts) (es ++ fs)
all_keep_append shelf [] ts [] fs h k = k
all_keep_append shelf [] ts (e ∷ es) fs h k = absurd h
all_keep_append shelf (s ∷ ss) ts [] fs h k = absurd h
all_keep_append shelf (s ∷ ss) ts (e ∷ es) fs h k = (h.0, all_keep_append shelf ss ts es fs h.1 k)

-- a file was loaded, which made n series and m entries
pub record Loads (shelf : List Almanac) (bs : List ℕ) (n m : ℕ) (s t : Lent) : Type 0 where
  pub passed : load_failed s.plan.standing (places_of s) bs ≡ None
  pub series_made : n ≡ length (accepted_in (verdicts shelf (s.plan.standing.files + 1) bs))
  pub faults_made : m ≡ length (entries_in (s.plan.standing.files + 1) 1 (verdicts shelf (s.plan.standing.files + 1) bs))
  pub plan : t.plan.standing ≡ with_file s.plan.standing n m
  pub records : RecordsAdded shelf s.plan.standing.series (accepted_in (verdicts shelf (s.plan.standing.files + 1) bs)) s.series t.series
  pub entered : t.faults ≡ added s.plan.standing.faults (entries_in (s.plan.standing.files + 1) 1 (verdicts shelf (s.plan.standing.files + 1) bs)) s.faults
  pub rooms : places_of t ≡ places_of s

module _ (shelf : List Almanac) (bs : List ℕ) (n m : ℕ) (s t : Lent) (w : Loads shelf bs n m s t) where
  abbrev new : List (Result Accepted Fault)
  new = verdicts shelf (s.plan.standing.files + 1) bs

  fits : (s.plan.standing.series ≤ length s.series) × ((s.plan.standing.faults ≤ length s.faults) × (s.plan.standing.series ≤ length s.queue))
  fits = load_fits s.plan.standing (places_of s) bs w.passed

  -- the records in use, and the entries
  records_loaded : records_in_use t ≡ records_in_use s ++ w.records.0
  records_loaded = (λ i. take (w.plan i).series t.series) ∙ ap (λ k. take (s.plan.standing.series + k) t.series) w.series_made ∙ records_front shelf s.plan.standing.series (accepted_in new) s.series t.series w.records fits.0

  entries_loaded : take t.plan.standing.faults t.faults ≡ take s.plan.standing.faults s.faults ++ entries_in (s.plan.standing.files + 1) 1 new
  entries_loaded = (λ i. take (w.plan i).faults (w.entered i)) ∙ ap (λ k. take (s.plan.standing.faults + k) (added s.plan.standing.faults (entries_in (s.plan.standing.files + 1) 1 new) s.faults)) w.faults_made
      ∙ front_added s.plan.standing.faults s.faults (entries_in (s.plan.standing.files + 1) 1 new) fits.1.0

  -- how many places are in use then
  series_more : t.plan.standing.series ≡ s.plan.standing.series + n
  series_more = ap (λ q. q.series) w.plan

  faults_more : t.plan.standing.faults ≡ s.plan.standing.faults + m
  faults_more = ap (λ q. q.faults) w.plan

  series_count : t.plan.standing.series ≡ s.plan.standing.series + length w.records.0
  series_count = series_more ∙ ap (λ k. s.plan.standing.series + k) (w.series_made ∙ sym (as_many shelf w.records.0 (accepted_in new) w.records.1))

  faults_count : t.plan.standing.faults ≡ s.plan.standing.faults + length (entries_in (s.plan.standing.files + 1) 1 new)
  faults_count = faults_more ∙ ap (λ k. s.plan.standing.faults + k) w.faults_made

  -- and past them
  pub loaded_past : drop t.plan.standing.series t.queue ≡ drop t.plan.standing.series s.queue → Untouched s t
  loaded_past queue = record {
    more_series = omega (arith, series_more);
    more_faults = omega (arith, faults_more);
    series = (λ i. drop (series_count i) t.series) ∙ ap (drop (s.plan.standing.series + length w.records.0)) w.records.2 ∙ past_added s.plan.standing.series s.series w.records.0 fits.0 ∙ (λ i. drop (sym series_count i) s.series);
    faults = (λ i. drop (faults_count i) (w.entered i)) ∙ past_added s.plan.standing.faults s.faults (entries_in (s.plan.standing.files + 1) 1 new) fits.1.0 ∙ (λ i. drop (sym faults_count i) s.faults);
    queue = queue;
  }

  pub loaded_on : (Own shelf s → Own shelf t) → LeadsOn shelf (loaded bs n m) s t
  loaded_on own =
      λ first last room run st.
      let number : s.plan.standing.files + 1 ≡ files run + 1 = ap (λ q. q.files + 1) st.plan in
      let right : RightAfter shelf first last room run (loaded bs n m) = (
        sym (asked_after shelf first last room run s st (λ p t. load_failed p t bs)) ∙ w.passed,
        w.series_made ∙ ap (λ k. length (accepted_in (verdicts shelf k bs))) number,
        w.faults_made ∙ ap (λ k. length (entries_in k 1 (verdicts shelf k bs))) number,
      ) in
      led_on shelf first last room run s st (loaded bs n m) t right
      (w.plan ∙ ap (λ q. with_file q n m) st.plan ∙ sym (standing_loaded shelf run bs n m first last room right))
      w.rooms
      (subst (λ ss. AllKeep shelf ss (accepted shelf run ++ accepted_in (verdicts shelf (files run + 1) bs))) (sym records_loaded)
      (subst (λ k. AllKeep shelf (records_in_use s ++ w.records.0) (accepted shelf run ++ accepted_in (verdicts shelf k bs))) number
      (all_keep_append shelf (records_in_use s) w.records.0 (accepted shelf run) (accepted_in new) st.records w.records.1)))
      (entries_loaded ∙ (λ i. st.entered i ++ entries_in (number i) 1 (verdicts shelf (number i) bs)))
      (own st.own)
