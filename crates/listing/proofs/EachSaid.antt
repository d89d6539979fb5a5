-- What is said of the events of a file, one after another.
use Rattle.std.proofs.Common.{◌≡◌, ℕ, ◌+◌, ◌<◌, ◌≤◌, List, ◌++◌, length, take, get_or, Result, sym, ap, ◌∙◌, subst, arith}
use Rattle.std.proofs.Math.ListN.{get_or-map, length-map}
use Rattle.std.proofs.lemmas.List.{take_all}
use Rattle.calendar.specs.Sheets.{Almanac}
use Rattle.series.specs.declared.record.Series.{Series}
use Rattle.series.specs.Record.{Accepted}
use Rattle.icalendar.specs.declared.fault.Fault.{Fault}
use Rattle.commands.specs.declared.command.FileQuery.{FileQuery}
use Rattle.listing.specs.Lines.{Lines, numbered}
use Rattle.listing.specs.Texts.{verdict_in, verdicts_in, Said}
use Rattle.listing.proofs.Written.{next_line, length_numbered, numbered_at}

module _ (shelf : List Almanac) (query : FileQuery) (vs : List (Result Series Fault)) where
  abbrev pub so_far : ℕ → List ℕ → Type 0
  so_far i = Lines (Said shelf query) (take i (numbered 1 (verdicts_in vs)))

  pub event_more : (i : ℕ) (v : Result Series Fault) (text line more : List ℕ) → i < length vs → v ≡ get_or vs i v → so_far i text → Said shelf query (i + 1, verdict_in v) line → more ≡ text ++ line → so_far (i + 1) more
  event_more i v text line more h is so says e =
      let all = numbered 1 (verdicts_in vs) in
      let size : length (verdicts_in vs) ≡ length vs = length-map vs verdict_in in
      let long : i < length all = rw (length_numbered 1 (verdicts_in vs), size) h in
      let within : i < length (verdicts_in vs) = rw size h in
      let own : get_or (verdicts_in vs) i (verdict_in v) ≡ verdict_in v = get_or-map verdict_in vs i v ∙ ap verdict_in (sym is) in
      let number : 1 + i ≡ i + 1 = omega arith in
      let at : get_or all i (i + 1, verdict_in v) ≡ (i + 1, verdict_in v) =
      numbered_at 1 (verdicts_in vs) i (verdict_in v) _ within
      ∙ ap {B = ℕ × Result Accepted Fault} (λ w. (1 + i, w)) own ∙ ap {B = ℕ × Result Accepted Fault} (λ k. (k, verdict_in v)) number in
      next_line (Said shelf query) all i (i + 1, verdict_in v) text line more long so (subst (λ x. Said shelf query x line) (sym at) says) e

  -- all of them
  pub event_last : (i : ℕ) (text : List ℕ) → length vs ≤ i → so_far i text → Lines (Said shelf query) (numbered 1 (verdicts_in vs)) text
  event_last i text h so =
      let all = numbered 1 (verdicts_in vs) in
      let size : length all ≡ length vs = length_numbered 1 (verdicts_in vs) ∙ length-map vs verdict_in in
      subst (λ xs. Lines (Said shelf query) xs text) (take_all i all (rw size h)) so
