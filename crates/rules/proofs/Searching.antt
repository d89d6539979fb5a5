-- What the searches by tests say: of the numbers below a bound, of a list's elements, and of the first that passes.
-- Lemmas of our own tests over numbers and lists, which the library does not have.
use Rattle.std.proofs.Common.{◌≡◌, ℕ, zero, suc, ◌+◌, ◌<◌, ◌≤◌, Bool, true, false, cond, ◌⊎◌, List, [], ◌∷◌, length, get_or, Some, None, sym, refl, ap, ◌∙◌, subst, inl, inr, ⊎_elim, not-suc-le-zero, arith}
use Rattle.std.specs.List.{AllByRecursion}
use Rattle.std.proofs.lemmas.Bool.{cases_lt, cases_Bool, and_parts, or_left, or_right, or_cases, true≢false}
use Rattle.rules.specs.Parts.{some_of, each_of}
use Rattle.rules.specs.Meaning.{some_below, first_from}

-- which way a choice passed
pub cond_ways : (b x y : Bool) → cond b x y ≡ true → ((b ≡ true) × (x ≡ true)) ⊎ ((b ≡ false) × (y ≡ true))
cond_ways true x y t = inl (refl, t)
cond_ways false x y t = inr (refl, t)

-- ── numbers below a bound ──

pub below_from : (f : ℕ → Bool) (n k : ℕ) → k < n → f k ≡ true → some_below f n ≡ true
below_from f zero k h t = absurd (not-suc-le-zero h)
below_from f (suc n) k h t =
    ⊎_elim (λ (lt : k < n). or_right (f n) (some_below f n) (below_from f n k lt t))
    (λ (ge : n ≤ k). let e : k ≡ n = omega arith in or_left (f n) (some_below f n) (sym (ap f e) ∙ t))
    (cases_lt k n)

pub below_found : (f : ℕ → Bool) (n : ℕ) → some_below f n ≡ true → (k : ℕ) × (k < n) × (f k ≡ true)
below_found f zero t = absurd (true≢false (sym t))
below_found f (suc n) t =
    ⊎_elim (λ e. (n, omega arith, e))
    (λ e. let r = below_found f n e in (r.0, omega (arith, r.1), r.2))
    (or_cases (f n) (some_below f n) t)

-- ── elements of a list ──

-- an element that passes, by its place
pub of_found : {X : Type 0} (f : X → Bool) (xs : List X) (d : X) → some_of f xs ≡ true → (i : ℕ) × (i < length xs) × (f (get_or xs i d) ≡ true)
of_found f [] d t = absurd (true≢false (sym t))
of_found f (x ∷ xs) d t =
    ⊎_elim (λ e. (0, omega arith, e))
    (λ e. let r = of_found f xs d e in (suc r.0, omega (arith, r.1), r.2))
    (or_cases (f x) (some_of f xs) t)

-- what holds of every element that passes and has P holds if one passes
pub of_some : {X : Type 0} (Q : Type 0) (P : X → Type 0) (f : X → Bool) → ((x : X) → P x → f x ≡ true → Q) → (xs : List X) → AllByRecursion P xs → some_of f xs ≡ true → Q
of_some Q P f h [] a t = absurd (true≢false (sym t))
of_some Q P f h (x ∷ xs) a t = ⊎_elim (λ e. h x a.0 e) (λ e. of_some Q P f h xs a.1 e) (or_cases (f x) (some_of f xs) t)

pub of_any : {X : Type 0} (Q : Type 0) (f : X → Bool) → ((x : X) → f x ≡ true → Q) → (xs : List X) → some_of f xs ≡ true → Q
of_any Q f h [] t = absurd (true≢false (sym t))
of_any Q f h (x ∷ xs) t = ⊎_elim (λ e. h x e) (λ e. of_any Q f h xs e) (or_cases (f x) (some_of f xs) t)

-- every element passes
pub each_all : {X : Type 0} (P : X → Type 0) (f : X → Bool) → ((x : X) → f x ≡ true → P x) → (xs : List X) → each_of f xs ≡ true → AllByRecursion P xs
each_all P f h [] t = tt
each_all P f h (x ∷ xs) t = let p = and_parts (f x) (each_of f xs) t in (h x p.0, each_all P f h xs p.1)

-- ── the first that passes ──

pub first_some : (f : ℕ → Bool) (n k d : ℕ) → k ≤ d → d < k + n → f d ≡ true → ((m : ℕ) → k ≤ m → m < d → f m ≡ false) → first_from f k n ≡ Some d
first_some f zero k d h g t none = absurd (let z : ⊥ = omega arith in z)
first_some f (suc n) k d h g t none =
    ⊎_elim
    (λ (lt : k < d).
    ap (λ (b : Bool). cond b (Some k) (first_from f (suc k) n)) (none k (omega arith) lt)
    ∙ first_some f n (suc k) d (omega arith) (omega arith) t (λ m a b. none m (omega arith) b))
    (λ (ge : d ≤ k).
    let e : k ≡ d = omega arith in
    ap (λ (b : Bool). cond b (Some k) (first_from f (suc k) n)) (ap f e ∙ t) ∙ ap Some e)
    (cases_lt k d)

pub first_none : (f : ℕ → Bool) (n k : ℕ) → ((m : ℕ) → k ≤ m → m < k + n → f m ≡ false) → first_from f k n ≡ None
first_none f zero k none = refl
first_none f (suc n) k none =
    ap (λ (b : Bool). cond b (Some k) (first_from f (suc k) n)) (none k (omega arith) (omega arith))
    ∙ first_none f n (suc k) (λ m a b. none m (omega arith) (omega arith))

-- what a search finds passes, and lies where it looked
pub first_found : (f : ℕ → Bool) (n k d : ℕ) → first_from f k n ≡ Some d → (f d ≡ true) × (k ≤ d) × (d < k + n)
first_found f zero k d e = let z : ◌≡◌ {A = ℕ} 0 1 = cc in absurd (let w : ⊥ = omega arith in w)
first_found f (suc n) k d e =
    ⊎_elim
    (λ t.
    let e' = sym (ap (λ (b : Bool). cond b (Some k) (first_from f (suc k) n)) t) ∙ e in
    let i : k ≡ d = cc in
    (subst (λ (x : ℕ). f x ≡ true) i t, omega arith, omega arith))
    (λ t.
    let e' = sym (ap (λ (b : Bool). cond b (Some k) (first_from f (suc k) n)) t) ∙ e in
    let r = first_found f n (suc k) d e' in
    (r.0, omega arith, omega arith))
    (cases_Bool (f k))

-- and is the first
pub first_least : (f : ℕ → Bool) (n k d m : ℕ) → first_from f k n ≡ Some d → k ≤ m → m < d → f m ≡ false
first_least f zero k d m e h g = let z : ◌≡◌ {A = ℕ} 0 1 = cc in absurd (let w : ⊥ = omega arith in w)
first_least f (suc n) k d m e h g =
    ⊎_elim
    (λ (t : f k ≡ true).
    let e' = sym (ap (λ (b : Bool). cond b (Some k) (first_from f (suc k) n)) t) ∙ e in
    let i : k ≡ d = cc in
    absurd (let w : ⊥ = omega arith in w))
    (λ (t : f k ≡ false).
    let e' = sym (ap (λ (b : Bool). cond b (Some k) (first_from f (suc k) n)) t) ∙ e in
    ⊎_elim (λ (lt : k < m). first_least f n (suc k) d m e' (omega arith) g)
    (λ (ge : m ≤ k). let i : k ≡ m = omega arith in sym (ap f i) ∙ t)
    (cases_lt k m))
    (cases_Bool (f k))

-- a search that finds nothing has nothing to find
pub first_missed : (f : ℕ → Bool) (n k m : ℕ) → first_from f k n ≡ None → k ≤ m → m < k + n → f m ≡ true → ⊥
first_missed f zero k m e h g t = omega arith
first_missed f (suc n) k m e h g t =
    ⊎_elim
    (λ (b : f k ≡ true).
    let e' = sym (ap (λ (b : Bool). cond b (Some k) (first_from f (suc k) n)) b) ∙ e in
    let z : ◌≡◌ {A = ℕ} 0 1 = cc in
    omega arith)
    (λ (b : f k ≡ false).
    let e' = sym (ap (λ (b : Bool). cond b (Some k) (first_from f (suc k) n)) b) ∙ e in
    ⊎_elim (λ (lt : k < m). first_missed f n (suc k) m e' (omega arith) (omega arith) t)
    (λ (ge : m ≤ k). let i : k ≡ m = omega arith in true≢false (sym t ∙ sym (ap f i) ∙ b))
    (cases_lt k m))
    (cases_Bool (f k))
