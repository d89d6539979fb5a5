-- The questions of a load, one after another.
use Rattle.std.proofs.Common.{◌≡◌, ℕ, ◌+◌, ◌<◌, ◌≤◌, Bool, true, false, cond, ◌&&◌, nat_le, nat_lt, List, length, Some, None, Ok, Err, Option, refl, ap, arith, tests}
use Rattle.std.proofs.lemmas.Bool.{and_parts, ltb-true}
use Rattle.refusals.specs.declared.asked.PlanQuestion.{PlanQuestion}
use Rattle.refusals.specs.declared.asked.PlanQuestion.TheVariants.{FullTables, FewFiles, RoomForSeries, RoomForFaults}
use Rattle.refusals.specs.declared.asked.FileQuestion.{FileQuestion}
use Rattle.icalendar.specs.Files.{asked, first_failed, unless_failed, file_read, events_of}
use Rattle.runs.specs.declared.calls.Refusal.{Refusal}
use Rattle.runs.specs.declared.calls.Refusal.TheVariants.{File}
use Rattle.runs.specs.declared.calls.Places.{Places}
use Rattle.runs.specs.Plans.{Standing, counted, has_room, tables_full, tables_failed, room_failed, load_failed, or_else, of_plan, of_file}

-- the question that a file fails, if any, as a refusal
abbrev as_refusal : Option FileQuestion → Option Refusal
as_refusal o = elim o [ Some question ↦ Some (File question) | None ↦ None ]

refused_by : (o : Option FileQuestion) (n : ℕ) (question : FileQuestion) → Err question ≡ unless_failed o n → as_refusal o ≡ Some (File question)
refused_by (Some other) n question e = ap (λ r. Some (File r)) cc
refused_by None n question e = absurd cc

passed_by : (o : Option FileQuestion) (n m : ℕ) → Ok m ≡ unless_failed o n → (as_refusal o ≡ None) × (m ≡ n)
passed_by (Some other) n m e = absurd cc
passed_by None n m e = (refl, cc)

pub file_refused : (bs : List ℕ) (question : FileQuestion) → Err question ≡ file_read bs → of_file bs ≡ Some (File question)
file_refused bs question e = refused_by (first_failed asked bs) (length (events_of bs)) question e

pub file_passed : (bs : List ℕ) (events : ℕ) → Ok events ≡ file_read bs → (of_file bs ≡ None) × (events ≡ length (events_of bs))
file_passed bs events e = passed_by (first_failed asked bs) (length (events_of bs)) events e

-- ── what a load that passes can count on ──

none_failing : {Q : Type 0} (b : Bool) (question : Q) (more : Option Q) → cond b more (Some question) ≡ None → (b ≡ true) × (more ≡ None)
none_failing true question more e = (refl, e)
none_failing false question more e = absurd cc

neither : {Q : Type 0} (o r : Option Q) → or_else o r ≡ None → (o ≡ None) × (r ≡ None)
neither (Some question) r e = absurd cc
neither None r e = (refl, e)

none_of_plan : (o : Option PlanQuestion) → of_plan o ≡ None → o ≡ None
none_of_plan (Some question) e = absurd cc
none_of_plan None e = refl

-- the counted places of a table are places
counted_fits : (n places : ℕ) → nat_le n (counted places) ≡ true → (n ≤ places) × (n ≤ 999)
counted_fits n places e = (grind (arith, tests), grind (arith, tests))

pub load_fits : (p : Standing) (t : Places) (bs : List ℕ) → load_failed p t bs ≡ None → (p.series ≤ t.series) × ((p.faults ≤ t.faults) × (p.series ≤ t.queue))
load_fits p t bs e =
    let full = none_failing (tables_full p t) FullTables None (none_of_plan (tables_failed p t) (neither (of_plan (tables_failed p t)) _ e).0) in
    let q = and_parts _ _ full.0 in
    let r = and_parts _ _ q.1 in
    ((counted_fits p.series t.series q.0).0, ((counted_fits p.faults t.faults r.0).0, (counted_fits p.series t.queue r.1).0))

-- room for each event of the file
pub record Room (p : Standing) (t : Places) (events : ℕ) : Type 0 where
  pub files : p.files < 999
  pub series : (p.series + events ≤ t.series) × (p.series + events ≤ 999)
  pub faults : (p.faults + events ≤ t.faults) × (p.faults + events ≤ 999)
  pub queue : (p.series + events ≤ t.queue) × (p.series + events ≤ 999)

pub load_room : (p : Standing) (t : Places) (bs : List ℕ) → load_failed p t bs ≡ None → Room p t (length (events_of bs))
load_room p t bs e =
    let n = length (events_of bs) in
    let room = none_of_plan (room_failed p t n) (neither (of_file bs) (of_plan (room_failed p t n)) (neither (of_plan (tables_failed p t)) _ e).1).1 in
    let few = none_failing (nat_lt p.files 999) FewFiles _ room in
    let series = none_failing (has_room p.series n t.series && has_room p.series n t.queue) RoomForSeries _ few.1 in
    let faults = none_failing (has_room p.faults n t.faults) RoomForFaults None series.1 in
    let q = and_parts _ _ series.0 in
    record {
      files = ltb-true p.files 999 few.0;
      series = counted_fits (p.series + n) t.series q.0;
      faults = counted_fits (p.faults + n) t.faults faults.0;
      queue = counted_fits (p.series + n) t.queue q.1;
    }
