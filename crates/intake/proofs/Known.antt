-- The heads of the first series of a table, and one series more.
use Rattle.std.proofs.Common.{◌≡◌, ℕ, ◌+◌, ◌<◌, ◌≤◌, List, [], ◌∷◌, ◌++◌, length, map, take, get_or, sym, ap, ◌∙◌, subst, arith}
use Rattle.std.proofs.lemmas.List.{length-map, length-take-le, map-append, take_more}
use Rattle.calendar.specs.Sheets.{Almanac}
use Rattle.series.specs.declared.record.Series.{Series}
use Rattle.series.specs.Record.{series_days}
use Rattle.owed.specs.declared.line.Line.{Line}
use Rattle.heads.specs.Heads.{sets_of, Heads}
use Rattle.heads.proofs.Moved.{heads_more}

-- the first series and one more
series_at : (series : List Series) (k : ℕ) → k < length series → (s : Series) × (take (k + 1) series ≡ take k series ++ s ∷ [])
series_at [] k h = absurd (omega (arith, h))
series_at (s ∷ ss) k h = (get_or (s ∷ ss) k s, take_more (s ∷ ss) k s h)

module _ (shelf : List Almanac) (series : List Series) (k : ℕ) (within : k < length series) where
  length_known : length (sets_of shelf (take k series)) ≡ k
  length_known = length-map (take k series) (series_days shelf) ∙ omega (arith, length-take-le k series (omega arith))

  -- a series more, which has no head yet
  pub known_more : (first last : ℕ) (mark : Line) (queue : List Line) (queued : ℕ) → Heads first last (sets_of shelf (take k series)) mark queue queued 0
      → Heads first last (sets_of shelf (take (k + 1) series)) mark queue queued (k + 1)
  known_more first last mark queue queued heads =
      let at = series_at series k within in
      let new = series_days shelf at.0 in
      let sets : sets_of shelf (take k series) ++ new ∷ [] ≡ sets_of shelf (take (k + 1) series) = sym (map-append (series_days shelf) (take k series) (at.0 ∷ [])) ∙ ap (map (series_days shelf)) (sym at.1) in
      subst (λ n. Heads first last (sets_of shelf (take (k + 1) series)) mark queue queued (n + 1)) length_known
      (subst (λ ss. Heads first last ss mark queue queued (length (sets_of shelf (take k series)) + 1)) sets
      (heads_more first last (sets_of shelf (take k series)) new mark queue queued heads))

  -- and there are as many as are known
  pub known_long : k + 1 ≤ length (take (k + 1) series)
  known_long = omega (arith, length-take-le (k + 1) series (omega arith))
