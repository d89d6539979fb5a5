-- A heap while one entry of it still looks for its place.
use Rattle.std.specs.Prelude.{◌≡◌, ℕ, ◌+◌, ◌*◌, ◌<◌, ◌≤◌, Bool, false, List, ◌≢◌, slice_index_or}

module _ {X : Type 0} (before : X → X → Bool) where
  -- The first n places would be in heap order, were the entry at j left out: no other entry is before its parent, and no
  -- child of j is before the parent of j.
  abbrev pub HeapedBut : List X → ℕ → ℕ → Type 0
  HeapedBut xs j n =
      ((p k : ℕ) (d : X) → p * 2 + 1 ≤ k → k ≤ p * 2 + 2 → k < n → (p ≢ j) → (k ≢ j) → before (slice_index_or xs k d) (slice_index_or xs p d) ≡ false)
      × ((p k : ℕ) (d : X) → p * 2 + 1 ≤ j → j ≤ p * 2 + 2 → j * 2 + 1 ≤ k → k ≤ j * 2 + 2 → k < n → before (slice_index_or xs k d) (slice_index_or xs p d) ≡ false)

  -- no child of j among the first n is before the entry at c
  abbrev pub Leads : List X → ℕ → ℕ → ℕ → Type 0
  Leads xs c j n = (k : ℕ) (d : X) → j * 2 + 1 ≤ k → k ≤ j * 2 + 2 → k < n → before (slice_index_or xs k d) (slice_index_or xs c d) ≡ false

  -- the entry at j is not before its parent
  abbrev pub Follows : List X → ℕ → Type 0
  Follows xs j = (p : ℕ) (d : X) → p * 2 + 1 ≤ j → j ≤ p * 2 + 2 → before (slice_index_or xs j d) (slice_index_or xs p d) ≡ false
