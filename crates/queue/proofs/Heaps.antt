-- An entry rises and sinks in a heap, and the first entry of a heap is its least.
-- The library has heaps of its own types only, and none over lent places.
use Rattle.std.proofs.Common.{◌≡◌, ◌≢◌, ℕ, zero, suc, ◌+◌, ◌-◌, ◌*◌, ◌/◌, ◌<◌, ◌≤◌, Bool, true, false, List, length, get_or, take, sym, refl, ap, ◌∙◌, subst, ⊎_elim, arith}
use Rattle.std.specs.List.{ContainsAt as Has}
use Rattle.std.proofs.lemmas.List.{get_or_read}
use Rattle.std.proofs.lemmas.Bool.{cases_eq, cases_Bool}
use Rattle.queue.specs.Order.{Strict}
use Rattle.queue.specs.Heap.{Heaped, Least}
use Rattle.queue.specs.Steps.{HeapedBut, Leads, Follows}
use Rattle.queue.proofs.Members.{has_place, place_of}

module _ {X : Type 0} (before : X → X → Bool) where
  -- the same test, of equal entries
  pub alike : {a b x y : X} → a ≡ x → b ≡ y → before x y ≡ false → before a b ≡ false
  alike p q h = (λ k. before (p k) (q k)) ∙ h

  -- what a test of two entries that were read says of their places
  pub tells : (xs : List X) (i j : ℕ) (x y : X) (r b : Bool) → i < length xs → j < length xs → x ≡ get_or xs i x → y ≡ get_or xs j y → r ≡ before x y → r ≡ b
      → (d : X) → before (get_or xs i d) (get_or xs j d) ≡ b
  tells xs i j x y r b p q e f t u d = (λ k. before (sym (get_or_read xs i x p e d) k) (sym (get_or_read xs j y q f d) k)) ∙ (sym t ∙ u)

  -- the entry at j has found its place
  pub closes : (xs : List X) (j n : ℕ) → Follows before xs j → Leads before xs j j n → HeapedBut before xs j n → Heaped before xs n
  closes xs j n follows leads h = λ p k d a b f. ⊎_elim
      (λ e. alike refl (ap (λ m. get_or xs m d) e) (leads k d (omega arith) (omega arith) f))
      (λ u. ⊎_elim
      (λ e. alike (ap (λ m. get_or xs m d) e) refl (follows p d (omega arith) (omega arith)))
      (λ v. h.0 p k d a b f u v) (cases_eq k j)) (cases_eq p j)

  -- lists that agree on their first n places
  pub heaped_same : (xs ys : List X) (n : ℕ) → ((k : ℕ) (d : X) → k < n → get_or ys k d ≡ get_or xs k d) → Heaped before xs n → Heaped before ys n
  heaped_same xs ys n e h p k d a b f = alike (e k d f) (e p d (omega arith)) (h p k d a b f)

  -- a heap's first n places, when another entry is put into the first
  pub new_first : (xs zs : List X) (m n : ℕ) → n ≤ m → ((k : ℕ) (d : X) → (k ≢ 0) → k < n → get_or zs k d ≡ get_or xs k d) → Heaped before xs m → HeapedBut before zs 0 n
  new_first xs zs m n few e h = (
    λ p k d a b f u v. alike (e k d v f) (e p d u (omega arith)) (h p k d a b (omega arith)),
    λ p k d a. absurd (omega arith),
  )

  module _ (o : Strict before) where
    -- no entry is before itself
    itself : (xs : List X) (j k : ℕ) (d : X) → k ≡ j → before (get_or xs k d) (get_or xs j d) ≡ false
    itself xs j k d e =
        let x = get_or xs j d in
        alike (ap (λ m. get_or xs m d) e) refl (⊎_elim (o.one_way x x) (λ f. f) (cases_Bool (before x x)))

    -- ys is xs with j and its child c exchanged, which was before it
    module _ (xs ys : List X) (j c n : ℕ) (from : j * 2 + 1 ≤ c) (to : c ≤ j * 2 + 2) (in' : c < n)
        (s0 : (d : X) → get_or ys j d ≡ get_or xs c d) (s1 : (d : X) → get_or ys c d ≡ get_or xs j d)
        (s2 : (k : ℕ) (d : X) → (k ≡ j → ⊥) → (k ≡ c → ⊥) → get_or ys k d ≡ get_or xs k d)
        (t : (d : X) → before (get_or xs c d) (get_or xs j d) ≡ true) where
      at_j : (k : ℕ) (d : X) → k ≡ j → get_or ys k d ≡ get_or xs c d
      at_j k d e = ap (λ m. get_or ys m d) e ∙ s0 d

      at_c : (k : ℕ) (d : X) → k ≡ c → get_or ys k d ≡ get_or xs j d
      at_c k d e = ap (λ m. get_or ys m d) e ∙ s1 d

      pub rises : HeapedBut before xs c n → HeapedBut before ys j n × Leads before ys j j n
      rises h = (
        (
          λ p k d a b f u v. ⊎_elim
              (λ e. alike (s2 k d v (omega arith)) (at_c p d e) (h.1 j k d from to (omega arith) (omega arith) f))
              (λ w. let z : k ≡ c → ⊥ = omega arith in alike (s2 k d v z) (s2 p d u w) (h.0 p k d a b f w z)) (cases_eq p c),
          λ p k d a b f g i.
              let over = h.0 p j d a b (omega arith) (omega arith) (omega arith) in
              let same = s2 p d (omega arith) (omega arith) in
              ⊎_elim
              (λ e. alike (at_c k d e) same over)
              (λ w. alike (s2 k d (omega arith) w) same (o.chain _ _ _ (h.0 j k d f g i (omega arith) w) over)) (cases_eq k c),
        ),
        λ k d a b f.
            let late = o.one_way _ _ (t d) in
            ⊎_elim
            (λ e. alike (at_c k d e) (s0 d) late)
            (λ w. alike (s2 k d (omega arith) w) (s0 d) (o.chain _ _ _ (h.0 j k d a b f (omega arith) w) late)) (cases_eq k c),
      )

      pub sinks : Leads before xs c j n → HeapedBut before xs j n → HeapedBut before ys c n × Follows before ys c
      sinks leads h = (
        (
          λ p k d a b f u v. ⊎_elim
              (λ e. alike (s2 k d (omega arith) v) (at_j p d e) (leads k d (omega arith) (omega arith) f))
              (λ w. ⊎_elim
              (λ e. alike (at_j k d e) (s2 p d w u) (h.1 p c d (omega arith) (omega arith) from to in'))
              (λ z. alike (s2 k d z v) (s2 p d w u) (h.0 p k d a b f w z)) (cases_eq k j)) (cases_eq p j),
          λ p k d a b f g i. let e : p ≡ j = omega arith in alike (s2 k d (omega arith) (omega arith)) (at_j p d e) (h.0 c k d f g i (omega arith) (omega arith)),
        ),
        λ p d a b. let e : p ≡ j = omega arith in alike (s1 d) (at_j p d e) (o.one_way _ _ (t d)),
      )

    -- no entry of a heap is before the first, since none is before its parent: `up` bounds the way up from k
    from_top : (xs : List X) (n : ℕ) (d : X) → Heaped before xs n → (up k : ℕ) → k ≤ up → k < n → before (get_or xs k d) (get_or xs 0 d) ≡ false
    from_top xs n d h zero k a b = itself xs 0 k d (omega arith)
    from_top xs n d h (suc up) k a b = ⊎_elim (itself xs 0 k d)
        (λ u. o.chain _ _ _ (h ((k - 1) / 2) k d (omega arith) (omega arith) b) (from_top xs n d h up ((k - 1) / 2) (omega arith) (omega arith))) (cases_eq k 0)

    pub top_least : (xs : List X) (n : ℕ) (x : X) → 0 < n → n ≤ length xs → x ≡ get_or xs 0 x → Heaped before xs n → Least before x (take n xs)
    top_least xs n x some h is heaped = record {
      among = subst (Has (take n xs)) (sym is) (has_place xs n 0 x some h);
      first = λ y m. let at = place_of xs n y h m in alike (sym (at.2 x)) is (from_top xs n x heaped at.0 at.0 (omega arith) at.1);
    }
