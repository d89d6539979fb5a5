-- The heads after the mark moved on, with one more series, and of no series.
use Rattle.std.proofs.Common.{◌≡◌, ℕ, ◌+◌, Bool, true, List, [], ◌∷◌, ◌++◌, length, take, ⊎_elim, arith}
use Rattle.std.proofs.lemmas.List.Elements.{All-nil, All-weaker}
use Rattle.days.specs.Numbers.{in_range}
use Rattle.owed.specs.declared.line.Line.{Line}
use Rattle.owed.specs.Lines.{line, NotAfter}
use Rattle.owed.specs.Owed.{GivenBy}
use Rattle.owed.proofs.Order.{not_after_before}
use Rattle.owed.proofs.Owing.{given_still, given_cases}
use Rattle.heads.specs.Heads.{Heads}
use Rattle.heads.proofs.Counts.{heads_none}

module _ (first last : ℕ) (sets : List (ℕ → Bool)) where
  -- a later mark, or the same
  pub heads_sought : (m m2 : Line) (queue : List Line) (queued but : ℕ) → Heads first last sets m queue queued but → NotAfter m m2 → Heads first last sets m2 queue queued but
  heads_sought m m2 queue queued but heads later = record {
    ranged = heads.ranged;
    marked = omega (arith, heads.marked, later.0);
    within = heads.within;
    heaped = heads.heaped;
    lines = heads.lines;
    single = heads.single;
    gone = heads.gone;
    covers = λ l g b. heads.covers l g (not_after_before m m2 l later b);
  }

  -- a further series, which has no head yet
  pub heads_more : (set : ℕ → Bool) (mark : Line) (queue : List Line) (queued : ℕ) → Heads first last sets mark queue queued 0
      → Heads first last (sets ++ set ∷ []) mark queue queued (length sets + 1)
  heads_more set mark queue queued heads = record {
    ranged = heads.ranged;
    marked = heads.marked;
    within = heads.within;
    heaped = heads.heaped;
    lines = All-weaker (GivenBy first last sets) (GivenBy first last (sets ++ set ∷ [])) (given_still first last sets set) (take queued queue) heads.lines;
    single = heads.single;
    gone = λ _. heads_none (length sets + 1) (take queued queue)
        (All-weaker (GivenBy first last sets) (λ head. head.series ≡ length sets + 1 → ⊥) (λ l g e. omega (arith, g.loaded, e)) (take queued queue) heads.lines);
    covers = λ l g b other. ⊎_elim
        (λ given. heads.covers l given b (λ e. omega (arith, given.from_one, e)))
        (λ new. absurd (other new.0))
        (given_cases first last sets set l g);
  }

-- no series, and no head
pub heads_opened : (first last : ℕ) (queue : List Line) → in_range first ≡ true → in_range last ≡ true → Heads first last [] (line first 0) queue 0 0
heads_opened first last queue opens closes = record {
  ranged = (opens, closes);
  marked = omega arith;
  within = omega arith;
  heaped = λ p k d a b lt. absurd (omega (arith, lt));
  lines = All-nil (GivenBy first last []);
  single = λ number. omega (arith, heads_none number [] (All-nil (λ head. head.series ≡ number → ⊥)));
  gone = λ z. absurd (omega (arith, z));
  covers = λ l g b other. absurd (omega (arith, g.from_one, g.loaded));
}
