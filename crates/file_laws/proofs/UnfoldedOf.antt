-- Logical lines: the groups that physical lines fall into, and what is read of each.
-- They stay: each is an induction, which the check does not make.
use Rattle.std.proofs.Common.{◌≡◌, ℕ, ◌+◌, true, false, List, [], ◌∷◌, ◌++◌, length, drop, sym, refl, ap, ◌∙◌, ⊎_elim, append-nil, arith}
use Rattle.std.specs.List.{AllByRecursion}
use Rattle.std.proofs.lemmas.Bool.{cond-true, cond-false, cases_Bool, false≢true}
use Rattle.lines.specs.Lines.{blank, go_on, longer, joined, logical_lines}
use Rattle.file_laws.specs.Physical.{Unbroken, written}
use Rattle.file_laws.specs.Unfolded.{Group, continues, Grouped, physical, all_physical, unfolded, logical, all_logical, Unfolding}
use Rattle.file_laws.proofs.PhysicalOf.{all_lines}

-- the first group, that of the first line, and those after it
BeginsWith : List ℕ → List (List ℕ) → Type 0
BeginsWith l ls = (os : List (List ℕ)) × (gs : List Group) × Grouped (record { first = l; others = os } ∷ gs) × (l ∷ ls ≡ all_physical (record { first = l; others = os } ∷ gs))

first_group : (l : List ℕ) (ls : List (List ℕ)) → BeginsWith l ls
unfolding BeginsWith
first_group l [] = ([], [], ((tt, tt), tt), refl)
first_group l (m ∷ ls) =
    let (os, gs, (h, k), e) = first_group m ls in
    ⊎_elim
    (λ (y : continues m ≡ true). (m ∷ os, gs, (((y, h.0), h.1), k), ap (λ xs. l ∷ xs) e))
    (λ (n : continues m ≡ false). ([], record { first = m; others = os } ∷ gs, ((tt, h), (n, k)), ap (λ xs. l ∷ xs) e))
    (cases_Bool (continues m))

groups : (ls : List (List ℕ)) → (gs : List Group) × Grouped gs × (ls ≡ all_physical gs)
unfolding BeginsWith
groups [] = ([], (tt, tt), refl)
groups (l ∷ ls) = let (os, gs, h, e) = first_group l ls in (record { first = l; others = os } ∷ gs, h, e)

-- one group put together, before lines that do not continue it
one : (os : List (List ℕ)) (p : ℕ) (l : List ℕ) (ls : List (List ℕ)) → AllByRecursion (λ o. continues o ≡ true) os → go_on ls ≡ false → joined p (l ∷ (os ++ ls)) ≡ record { place = p; text = l ++ unfolded os } ∷ joined (p + (1 + length os)) ls
one [] p l ls h e = cond-false (go_on ls) _ _ e ∙ ap (λ t. record { place = p; text = t } ∷ joined (p + 1) ls) (sym (append-nil l))
one ([] ∷ os) p l ls h e = absurd (false≢true h.0)
one ((b ∷ o) ∷ os) p l ls h e =
    let k : (p + 1) + (1 + length os) ≡ p + (1 + length ((b ∷ o) ∷ os)) = omega arith in
    cond-true (blank b) _ _ h.0
    ∙ ap (longer p l) (one os (p + 1) (b ∷ o) ls h.1 e)
    ∙ ap (λ n. record { place = p; text = l ++ (o ++ unfolded os) } ∷ joined n ls) k

goes : (l : List ℕ) (ls : List (List ℕ)) → go_on (l ∷ ls) ≡ continues l
goes [] ls = refl
goes (b ∷ l) ls = refl

no_more : (gs : List Group) → AllByRecursion (λ g. continues g.first ≡ false) gs → go_on (all_physical gs) ≡ false
no_more [] h = refl
no_more (g ∷ gs) h = goes g.first (g.others ++ all_physical gs) ∙ h.0

later : (gs : List Group) → AllByRecursion (λ g. continues g.first ≡ false) gs → AllByRecursion (λ g. continues g.first ≡ false) (drop 1 gs)
later [] h = tt
later (g ∷ gs) h = h.1

all : (gs : List Group) (n : ℕ) → Grouped gs → joined (n + 1) (all_physical gs) ≡ all_logical n gs
all [] n h = refl
all (g ∷ gs) n h =
    let k : (n + 1) + (1 + length g.others) ≡ (n + length (physical g)) + 1 = omega arith in
    one g.others (n + 1) g.first (all_physical gs) h.0.0 (no_more gs h.1)
    ∙ ap (λ p. record { place = n + 1; text = logical g } ∷ joined p (all_physical gs)) k
    ∙ ap (λ ls. record { place = n + 1; text = logical g } ∷ ls) (all gs (n + length (physical g)) (h.0.1, later gs h.1))

lines : (gs : List Group) → Grouped gs → AllByRecursion Unbroken (all_physical gs) → logical_lines (written (all_physical gs)) ≡ all_logical 0 gs
lines gs h u = ap (joined 1) (all_lines (all_physical gs) u) ∙ all gs 0 h

pub unfolding_law : Unfolding
unfolding_law = record { groups = groups; lines = lines }
