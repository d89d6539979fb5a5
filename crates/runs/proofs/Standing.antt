-- What a load makes of a plan that stands where a run led it. The other steps need no lemma: `refl` proves what they make, and
-- what a load makes of the files, the accepted events, the entries and the mark.
use Rattle.std.proofs.Common.{◌≡◌, ℕ, ◌+◌, List, ◌++◌, length, map, sym, ◌∙◌, ap}
use Rattle.std.proofs.lemmas.List.{length-map, length-append, map-append}
use Rattle.calendar.specs.Sheets.{Almanac}
use Rattle.series.specs.Record.{days_given}
use Rattle.icalendar.specs.Verdicts.{verdicts}
use Rattle.runs.specs.declared.calls.Places.{Places}
use Rattle.runs.specs.Plans.{accepted_in, entries_in, with_file}
use Rattle.runs.specs.Runs.{Run, loaded, ◌▸◌, files, accepted, entries, mark, standing, sets}
use Rattle.runs.specs.Law.{RightAfter}

module _ (shelf : List Almanac) where
  -- a series for each accepted event
  pub length_sets : (run : Run) → length (sets shelf run) ≡ length (accepted shelf run)
  length_sets run = length-map (accepted shelf run) (days_given shelf)

  module _ (run : Run) (bs : List ℕ) (n m : ℕ) where
    -- the sets of the events that a load accepts come after those that were there
    pub sets_loaded : sets shelf (run ▸ loaded bs n m) ≡ sets shelf run ++ map (days_given shelf) (accepted_in (verdicts shelf (files run + 1) bs))
    sets_loaded = map-append (days_given shelf) (accepted shelf run) (accepted_in (verdicts shelf (files run + 1) bs))

    -- a right load adds as many series and entries as it answers
    pub standing_loaded : (first last : ℕ) (places : Places) → RightAfter shelf first last places run (loaded bs n m)
        → standing shelf first last (run ▸ loaded bs n m) ≡ with_file (standing shelf first last run) n m
    standing_loaded first last places r =
        let new = verdicts shelf (files run + 1) bs in
        let series : length (accepted shelf run ++ accepted_in new) ≡ length (accepted shelf run) + n = length-append (accepted shelf run) (accepted_in new) ∙ ap (λ k. length (accepted shelf run) + k) (sym r.1) in
        let faults : length (entries shelf run ++ entries_in (files run + 1) 1 new) ≡ length (entries shelf run) + m = length-append (entries shelf run) (entries_in (files run + 1) 1 new) ∙ ap (λ k. length (entries shelf run) + k) (sym r.2) in
        λ i. record { first = first; last = last; mark = mark first run; files = files run + 1; series = series i; faults = faults i }
