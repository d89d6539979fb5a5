-- What a queue keeps to, and what it answers. The queue's entries stand in the first places of a list, `take used slots`.
use Rattle.std.specs.Prelude.{◌≡◌, ℕ, ◌+◌, ◌-◌, ◌*◌, ◌<◌, ◌≤◌, Bool, false, List, ◌∷◌, take, Some, None, Option, ◌≢◌, slice_index_or}
use Rattle.std.specs.List.Sorted.{IsPermutation}
use Rattle.std.specs.List.{ContainsAt as Has}

-- The first n places are in heap order: no entry is before its parent. The entry at p is the parent of those at 2p + 1 and
-- 2p + 2. What is read outside the list, d, does not matter.
abbrev pub Heaped : {X : Type 0} → (X → X → Bool) → List X → ℕ → Type 0
Heaped before xs n = (p k : ℕ) (d : _) → p * 2 + 1 ≤ k → k ≤ p * 2 + 2 → k < n → before (slice_index_or xs k d) (slice_index_or xs p d) ≡ false

-- x is one of the entries, and none of them is before it
pub record Least {X : Type 0} (before : X → X → Bool) (x : X) (entries : List X) : Type 0 where
  pub among : Has entries x
  pub first : (y : X) → Has entries y → before y x ≡ false

-- x is taken out: it is the least of the entries in use, if these stood in heap order, and the places in use but one hold the
-- others
pub record Taken {X : Type 0} (before : X → X → Bool) (used : ℕ) (old new : List X) (x : X) : Type 0 where
  pub some : 0 < used
  pub least : Heaped before old used → Least before x (take used old)
  pub others : IsPermutation (take used old) (x ∷ take (used - 1) new)

-- what a pop answers, which turns the places `old` into `new`: none exactly if no place is in use, and then nothing changes
abbrev pub Popped : {X : Type 0} → (X → X → Bool) → ℕ → List X → List X → Option X → Type 0
Popped before used old new None = (used ≡ 0) × (new ≡ old)
Popped before used old new (Some x) = Taken before used old new x

-- x is one of the entries that are not before `from`, and none of those is before it
pub record LeastFrom {X : Type 0} (before : X → X → Bool) (from : X) (entries : List X) (x : X) : Type 0 where
  pub among : Has entries x
  pub late : before x from ≡ false
  pub first : (y : X) → Has entries y → before y from ≡ false → before y x ≡ false

-- the least of the entries that are not before `from`, or none exactly if there is no such entry
abbrev pub FirstFrom : {X : Type 0} → (X → X → Bool) → X → List X → Option X → Type 0
FirstFrom before from entries None = (y : _) → Has entries y → before y from ≢ false
FirstFrom before from entries (Some x) = LeastFrom before from entries x
