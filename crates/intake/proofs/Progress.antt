-- What is stored of the events so far, and of one more.
use Rattle.std.proofs.Common.{◌≡◌, ℕ, ◌+◌, ◌<◌, ◌≤◌, List, [], ◌∷◌, ◌++◌, length, drop, map, set, Ok, Err, Result, IfOk, IfErr, sym, ap, ◌∙◌, subst, arith}
use Rattle.std.proofs.lemmas.List.{length-append, length-map, length_push}
use Rattle.calendar.specs.Sheets.{Almanac}
use Rattle.series.specs.declared.record.Series.{Series}
use Rattle.series.specs.Record.{Accepted}
use Rattle.icalendar.specs.declared.fault.Fault.{Fault}
use Rattle.icalendar.specs.Verdicts.{Says}
use Rattle.report.specs.declared.entries.FaultEntry.{FaultEntry}
use Rattle.runs.specs.declared.calls.Made.{Made}
use Rattle.runs.specs.Plans.{accepted_in, entries_in}
use Rattle.intake.specs.Stored.{AllKeep, RecordsStored, stored, entry, one_series, one_entry}
use Rattle.intake.proofs.Growing.{accepted_more, accepted_same, entries_more, entries_same, all_keep_more, as_many, one_each, written_next}

-- the events so far are stored in the tables, which were empty, and so many were made of them
pub record Progress (shelf : List Almanac) (file : ℕ) (empty_series : List Series) (empty_faults : List FaultEntry) (done : List (Result Accepted Fault)) (made : Made) (now_series : List Series) (now_faults : List FaultEntry) : Type 0 where
  pub series_made : made.series ≡ length (accepted_in done)
  pub faults_made : made.faults ≡ length (entries_in file 1 done)
  pub series : RecordsStored shelf (accepted_in done) empty_series now_series
  pub faults : now_faults ≡ stored (entries_in file 1 done) empty_faults

-- what a store makes of a verdict
pub record Stores (verdict : Result Series Fault) (file : ℕ) (before after : Made) (series : List Series) (faults : List FaultEntry) (new_series : List Series) (new_faults : List FaultEntry) : Type 0 where
  pub ok : IfOk verdict (λ s. (new_series ≡ set series before.series s) × (new_faults ≡ faults))
  pub err : IfErr verdict (λ fault. (new_series ≡ series) × (new_faults ≡ set faults before.faults (entry file (before.series + before.faults + 1) fault)))
  pub made : IfOk verdict (λ s. after ≡ one_series before) × IfErr verdict (λ fault. after ≡ one_entry before)

module _ (shelf : List Almanac) (file : ℕ) (empty_series : List Series) (empty_faults : List FaultEntry) (done : List (Result Accepted Fault)) (made after : Made) (series new_series : List Series) (faults new_faults : List FaultEntry) where
  abbrev Now : Type 0
  Now = Progress shelf file empty_series empty_faults done made series faults

  abbrev Then : Result Accepted Fault → Type 0
  Then e = Progress shelf file empty_series empty_faults (done ++ e ∷ []) after new_series new_faults

  -- with one of n events to come, tables of n places have room
  pub room_left : Now → (n a b : ℕ) → length done < n → n ≤ a → n ≤ b → n ≤ 999 → (made.series < a) × ((made.faults < b) × (made.series + made.faults < 999))
  room_left p n a b more h k few =
      let each = one_each file 1 done in
      let s = p.series_made in
      let f = p.faults_made in
      (omega arith, (omega arith, omega arith))

  pub progress_next : Now → made.series < length empty_series → made.faults < length empty_faults → (v : Result Series Fault) (e : Result Accepted Fault) → Says shelf v e → Stores v file made after series faults new_series new_faults → Then e
  progress_next p a b (Ok s) (Ok e) says st =
      let q = p.series in
      let long : length q.0 ≡ length (accepted_in done) = as_many shelf q.0 (accepted_in done) q.1 in
      let n : made.series ≡ length q.0 = omega (arith, long, p.series_made) in
      let many : length (q.0 ++ s ∷ []) ≡ length (accepted_in (done ++ Ok e ∷ [])) = omega (arith, length_push q.0 s, ap length (accepted_more done e), length_push (accepted_in done) e, long) in
      let old : series ≡ q.0 ++ drop made.series empty_series = q.2 ∙ ap (λ k. q.0 ++ drop k empty_series) (sym p.series_made) in
      record {
        series_made = ap (λ (m : Made). m.series) st.made.0 ∙ omega (arith, p.series_made, ap length (accepted_more done e), length_push (accepted_in done) e);
        faults_made = ap (λ (m : Made). m.faults) st.made.0 ∙ p.faults_made ∙ ap length (sym (entries_same file 1 done e));
        series = (
          q.0 ++ s ∷ [],
          subst (AllKeep shelf (q.0 ++ s ∷ [])) (sym (accepted_more done e)) (all_keep_more shelf q.0 (accepted_in done) s e q.1 says),
          st.ok.0 ∙ ap (λ l. set l made.series s) old ∙ written_next q.0 empty_series made.series s n a ∙ ap (λ k. (q.0 ++ s ∷ []) ++ drop k empty_series) many,
        );
        faults = st.ok.1 ∙ p.faults ∙ ap (λ es. stored es empty_faults) (sym (entries_same file 1 done e));
      }
  progress_next p a b (Ok s) (Err f) says st = absurd says
  progress_next p a b (Err g) (Ok e) says st = absurd says
  progress_next p a b (Err g) (Err f) says st =
      let es = entries_in file 1 done in
      let q = p.series in
      let number : 1 + (length (accepted_in done) + length es) ≡ made.series + made.faults + 1 = omega (arith, p.series_made, p.faults_made) in
      let more : entries_in file 1 (done ++ Err f ∷ []) ≡ es ++ entry file (made.series + made.faults + 1) g ∷ [] =
      entries_more file 1 done f ∙ ap (λ n. es ++ entry file n f ∷ []) number ∙ ap (λ h. es ++ entry file (made.series + made.faults + 1) h ∷ []) (sym says) in
      record {
        series_made = ap (λ (m : Made). m.series) st.made.1 ∙ p.series_made ∙ ap length (sym (accepted_same done f));
        faults_made = ap (λ (m : Made). m.faults) st.made.1 ∙ omega (arith, p.faults_made, ap length more, length_push es (entry file (made.series + made.faults + 1) g));
        series = (q.0, subst (AllKeep shelf q.0) (sym (accepted_same done f)) q.1, st.err.0 ∙ q.2 ∙ ap (λ k. q.0 ++ drop (length k) empty_series) (sym (accepted_same done f)));
        faults = st.err.1 ∙ ap (λ l. set l made.faults (entry file (made.series + made.faults + 1) g)) (p.faults ∙ ap (λ k. es ++ drop k empty_faults) (sym p.faults_made))
            ∙ written_next es empty_faults made.faults (entry file (made.series + made.faults + 1) g) p.faults_made b
            ∙ ap (λ xs. stored xs empty_faults) (sym more);
      }

-- an event is left to come
pub one_to_come : {E : Type 0} (judge : E → Result Accepted Fault) (done : List (Result Accepted Fault)) (events here later : List E) (e : E) → here ≡ e ∷ later → done ++ map judge here ≡ map judge events → length done < length events
one_to_come judge done events here later e h w =
    omega (arith, ap length w, length-append done (map judge here), length-map here judge, length-map events judge, ap length h)
