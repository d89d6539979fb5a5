-- Sets of days: the least day of a set at or after a day, how sets are made from lists and from other sets, and the first n
-- days of a set. A set is a Boolean test on day numbers, of which only those in the range are days of the set.
use Rattle.std.specs.Prelude.{◌≡◌, ℕ, zero, suc, ◌+◌, ◌<◌, ◌≤◌, Bool, true, cond, not, ◌&&◌, ◌||◌, List, Some, None, Option, ◌==◌, nat_le, nat_lt}
use Rattle.std.specs.List.{list_any}
use Rattle.days.specs.Numbers.{in_range}

-- d is a day of the set
pub record DayOf (set : ℕ → Bool) (d : ℕ) : Type 0 where
  pub ranged : in_range d ≡ true
  pub on : set d ≡ true

-- d is the least day of the set at or after `from`
pub record Least (set : ℕ → Bool) (from d : ℕ) : Type 0 where
  pub day : DayOf set d
  pub late : from ≤ d
  pub least : (e : ℕ) → DayOf set e → from ≤ e → d ≤ e

-- the least day at or after `from`, or none exactly if there is none
abbrev pub Found : (ℕ → Bool) → ℕ → Option ℕ → Type 0
Found set from (Some d) = Least set from d
Found set from None = (e : ℕ) → DayOf set e → from ≤ e → ⊥

-- one day
abbrev pub single : ℕ → ℕ → Bool
single day d = day == d

-- the days of a list, in any order; a day may stand in it twice
abbrev pub listed : List ℕ → ℕ → Bool
listed days d = list_any (λ day. single day d) days

-- the days of a set up to a last one, which is included
abbrev pub until : (ℕ → Bool) → ℕ → ℕ → Bool
until set last d = set d && nat_le d last

-- the days of a set that are not of another
abbrev pub except : (ℕ → Bool) → (ℕ → Bool) → ℕ → Bool
except set out d = set d && not (out d)

-- the days of either of two sets
abbrev pub union : (ℕ → Bool) → (ℕ → Bool) → ℕ → Bool
union one other d = one d || other d

-- how many days of the set are before a day
unfoldable pub count_below : (ℕ → Bool) → ℕ → ℕ
count_below set zero = 0
count_below set (suc d) = count_below set d + cond (in_range d && set d) 1 0

-- the first n days of a set: those with fewer than n before them
abbrev pub first_n : (ℕ → Bool) → ℕ → ℕ → Bool
first_n set n d = set d && nat_lt (count_below set d) n

-- d is the last of the first n days of the set: the n-th, or the last of all where the set has fewer
pub record Last (set : ℕ → Bool) (n d : ℕ) : Type 0 where
  pub day : DayOf set d
  pub among : count_below set d < n
  pub ends : (e : ℕ) → DayOf set e → count_below set e < n → e ≤ d

-- the last of the first n days, or none exactly if the set has no day or n is 0
abbrev pub LastOf : (ℕ → Bool) → ℕ → Option ℕ → Type 0
LastOf set n (Some d) = Last set n d
LastOf set n None = (e : ℕ) → DayOf set e → count_below set e < n → ⊥

-- two sets have the same days
abbrev pub Same : (ℕ → Bool) → (ℕ → Bool) → Type 0
Same one other = (d : ℕ) → in_range d ≡ true → one d ≡ other d

-- the first n days of a set are its days until the last of them, for every set and n
abbrev pub CountIsUntil : Type 0
CountIsUntil = (set : ℕ → Bool) (n d : ℕ) → Last set n d → Same (until set d) (first_n set n)
