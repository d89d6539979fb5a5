-- A queue over lent places: what it holds, and what a push and a pop make of it.
use Rattle.std.specs.Prelude.{◌≡◌, ℕ, ◌+◌, Bool, List, [], ◌∷◌, length, drop, Some, None, Option}
use Rattle.std.specs.List.Sorted.{IsPermutation}
use Rattle.queue.specs.Heap.{Least}

-- the entries, in whatever order, how many places there are for entries, and what stands in those that are not in use
pub record Holding (X : Type 0) : Type 0 where
  pub entries : List X
  pub places : ℕ
  pub spare : List X

module _ {X : Type 0} where
  -- x is added
  pub record Added (x : X) (old new : Holding X) : Type 0 where
    pub entries : IsPermutation (x ∷ old.entries) new.entries
    pub count : length new.entries ≡ length old.entries + 1
    pub places : new.places ≡ old.places
    pub spare : new.spare ≡ drop 1 old.spare

  -- x, the least of the entries, is taken out, and the others stay
  pub record LeastTaken (before : X → X → Bool) (old new : Holding X) (x : X) : Type 0 where
    pub least : Least before x old.entries
    pub others : IsPermutation old.entries (x ∷ new.entries)
    pub count : length old.entries ≡ length new.entries + 1
    pub places : new.places ≡ old.places
    pub spare : drop 1 new.spare ≡ old.spare

  -- what a pop answers: none exactly if there is no entry, and then nothing changes
  abbrev pub TakenFrom : (X → X → Bool) → Holding X → Holding X → Option X → Type 0
  TakenFrom before old new None = (old.entries ≡ []) × (new ≡ old)
  TakenFrom before old new (Some x) = LeastTaken before old new x
