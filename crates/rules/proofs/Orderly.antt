-- The periods of any rule come in order: a day of a later one is not before a day of an earlier one, and each is a day
-- further on at least.
-- The library has no calendars and no periods, so these lemmas are our own.
use Rattle.std.proofs.Common.{◌≡◌, ℕ, ◌+◌, ◌<◌, ◌≤◌, Bool, true, ⊎_elim, arith}
use Rattle.std.proofs.lemmas.Bool.{cases_lt}
use Rattle.days.specs.Numbers.{in_range}
use Rattle.calendar.specs.Sheets.{Almanac, Stands}
use Rattle.calendar.specs.Laws.{Lawful}
use Rattle.rules.specs.declared.checked.Rule.{Rule}
use Rattle.rules.specs.declared.period.Period.{Period}
use Rattle.rules.specs.Meaning.{Date, period_gives, period, counted_period}
use Rattle.rules.proofs.Onward.{Moves, periods_move, counted_move}

-- f k n says that the k-th period gives the day n. From `start` on a day of the k-th is k days after `start` or later,
-- and a day of a later period is not before a day of an earlier one.
pub record Orderly (start : ℕ) (f : ℕ → ℕ → Bool) : Type 0 where
  pub enough : (k n : ℕ) → f k n ≡ true → start ≤ n → start + k ≤ n
  pub across : (j k m n : ℕ) → j < k → f j m ≡ true → f k n ≡ true → m ≤ n

pub moves_orderly : (a : Almanac) (start : ℕ) (P : ℕ → Period) (f : ℕ → ℕ → Bool) → Moves a start P f → Orderly start f
moves_orderly a start P f m =
    record {
      enough = λ k n e late.
          ⊎_elim
          (λ (c : 0 < k).
          let u = m.from k n e in
          let w = m.begins k c (m.present k n e) in
          omega arith)
          (λ (c : k ≤ 0). omega arith)
          (cases_lt 0 k);
      across = λ j k x n lt e g.
          let u = m.from k n g in
          let w = m.up_to j k x lt (m.present k n g) e in
          omega arith;
    }

module _ (a : Almanac) (l : Lawful a) (r : Rule) (start : ℕ) (t : Date) (ranged : in_range start ≡ true) (st : Stands a start t.year t.place t.day) where
  pub counted_orderly : Orderly start (λ i n. period_gives a r start t (counted_period a r start t i) n)
  counted_orderly = moves_orderly a start (counted_period a r start t) _ (counted_move a l r start t ranged st)
