-- What stands in a table after some were added past those in use.
use Rattle.std.proofs.Common.{◌≡◌, ℕ, ◌+◌, ◌-◌, ◌≤◌, List, [], ◌∷◌, ◌++◌, append-nil, length, take, drop, append_assoc, sym, ap, subst, ◌∙◌, arith}
use borrow.Rule.Slice.PartMut.{put_mid, mid_of}
use Rattle.std.proofs.Math.Seq.{drop-append_seam}
use Rattle.std.proofs.lemmas.List.{drop-drop, drop_all, take_all, length-drop, take_at, length-append, length-take-le}
use Rattle.std.proofs.lemmas.List.Elements.{All-append, All-cons}
use Rattle.std.specs.List.{All}
use Rattle.calendar.specs.Sheets.{Almanac}
use Rattle.series.specs.declared.record.Series.{Series}
use Rattle.series.specs.Record.{Accepted, Ready}
use Rattle.intake.specs.Stored.{AllKeep, RecordsAdded, stored, added}
use Rattle.intake.proofs.Growing.{as_many}

module _ {X : Type 0} where
  -- the places from k on were lent, and what was stored in them came back
  pub part_added : (k : ℕ) (old part xs : List X) → k ≤ length old → part ≡ stored xs (mid_of k (length old - k) old) → put_mid k (length old - k) old part ≡ added k xs old
  part_added k old part xs h same =
      let whole : mid_of k (length old - k) old ≡ drop k old = take_all (length old - k) (drop k old) (omega (arith, length-drop k old)) in
      let past : drop (length old - k) (drop k old) ≡ [] = drop-drop (length old - k) k old ∙ drop_all (k + (length old - k)) old (omega arith) in
      ap (λ l. take k old ++ (part ++ l)) past
      ∙ ap (λ l. take k old ++ l) (append-nil part ∙ same ∙ ap (stored xs) whole ∙ ap (λ l. xs ++ l) (drop-drop (length xs) k old))

  -- those in use, and those added
  pub front_added : (k : ℕ) (old xs : List X) → k ≤ length old → take (k + length xs) (added k xs old) ≡ take k old ++ xs
  front_added k old xs h =
      ap (λ l. take (k + length xs) l) (sym (append_assoc (take k old) xs (drop (k + length xs) old)))
      ∙ take_at (take k old ++ xs) (drop (k + length xs) old) (k + length xs) (omega (arith, length-append (take k old) xs, length-take-le k old h))

  -- and past both
  pub past_added : (k : ℕ) (old xs : List X) → k ≤ length old → drop (k + length xs) (added k xs old) ≡ drop (k + length xs) old
  past_added k old xs h =
      let front : k + length xs ≡ length (take k old ++ xs) = omega (arith, length-append (take k old) xs, length-take-le k old h) in
      ap (drop (k + length xs)) (sym (append_assoc (take k old) xs (drop (k + length xs) old)))
      ∙ (λ i. drop (front i) ((take k old ++ xs) ++ drop (k + length xs) old)) ∙ drop-append_seam (take k old ++ xs) (drop (k + length xs) old)

-- records that keep events can be asked
keep_ready : (shelf : List Almanac) (ss : List Series) (es : List Accepted) → AllKeep shelf ss es → All (Ready shelf) ss
keep_ready shelf [] es h = λ k d lt. absurd (omega (arith, lt))
keep_ready shelf (s ∷ ss) [] h = absurd h
keep_ready shelf (s ∷ ss) (e ∷ es) h = All-cons (Ready shelf) s ss h.0.ready (keep_ready shelf ss es h.1)

module _ (shelf : List Almanac) (k : ℕ) (events : List Accepted) (old new : List Series) (a : RecordsAdded shelf k events old new) (h : k ≤ length old) where
  -- the records in use are those that were, and those added
  pub records_front : take (k + length events) new ≡ take k old ++ a.0
  records_front = ap (λ n. take (k + n) new) (sym (as_many shelf a.0 events a.1)) ∙ ap (λ l. take (k + length a.0) l) a.2 ∙ front_added k old a.0 h

  pub records_before : take k (take (k + length events) new) ≡ take k old
  records_before = ap (λ l. take k l) records_front ∙ take_at (take k old) a.0 k (length-take-le k old h)

  pub records_ready : All (Ready shelf) (take k old) → All (Ready shelf) (take (k + length events) new)
  records_ready all = subst (All (Ready shelf)) (sym records_front) (All-append (Ready shelf) (take k old) a.0 all (keep_ready shelf a.0 events a.1))
