-- In a lawful year each code stands at one place only.
use Rattle.std.proofs.Common.{◌≡◌, ℕ, zero, suc, ◌+◌, ◌-◌, ◌<◌, ◌≤◌, true, false, eqb, ltb, List, [], ◌∷◌, length, get_or, position, Some, None, refl, sym, ap, ◌∙◌, ⊎_elim, le_of_suc-le-suc, not-suc-le-zero, arith, length-take, length-take-le}
use Rattle.std.proofs.Math.Bool.{beq}
use Rattle.std.proofs.lemmas.Bool.{cond-true, cond-false, cases_Bool, cases_lt, cases_order, eqb-true, eq-eqb, lt-ltb, and_parts, and_from}
use Rattle.std.proofs.lemmas.List.Quantifiers.{position-Some}
use Rattle.std.proofs.lemmas.List.Sums.{fails_before_first}
use Rattle.std.specs.List.{position_or_len}
use Rattle.std.specs.Cmp.{booleans_Decides}
use Rattle.calendar.specs.declared.sheet.MonthCode.{MonthCode}
use Rattle.calendar.specs.declared.sheet.Sheet.{Sheet}
use Rattle.calendar.specs.Sheets.{Almanac, Answered, codes_of, code_at, no_code}
use Rattle.calendar.specs.Laws.{Lawful, plain_numbers, counted}
use Rattle.calendar.specs.Dates.{is_same, BearsCode, CodeFound}

-- a code is its number and its mark
pub same_code : (c d : MonthCode) → c.number ≡ d.number → c.leap ≡ d.leap → c ≡ d
same_code c d e f = let k : ◌≡◌ {A = MonthCode} record { number = c.number; leap = c.leap } record { number = d.number; leap = d.leap } = cc in k

-- codes that are the same by the test are the same, and those that are not differ
alike : (c d : MonthCode) → is_same c d ≡ true → c ≡ d
alike c d e =
    let p = and_parts (eqb c.number d.number) (beq c.leap d.leap) e in
    same_code c d (eqb-true c.number d.number p.0) ((booleans_Decides c.leap d.leap).0 p.1)

self_alike : (c : MonthCode) → is_same c c ≡ true
self_alike c = and_from (eqb c.number c.number) (beq c.leap c.leap) (eq-eqb c.number c.number refl) ((booleans_Decides c.leap c.leap).1 refl)

-- a year of at most thirteen months has as many codes
pub all_codes : (s : Sheet) → length s.codes ≡ 13 → s.months ≤ 13 → length (codes_of s) ≡ s.months
all_codes s full most = length-take-le s.months s.codes (omega arith)

-- the first month that bears a code, by how many stand before it
module _ (s : Sheet) (c : MonthCode) (full : length s.codes ≡ 13) (most : s.months ≤ 13) where
  -- a month that bears the code passes the test
  passes : (q : ℕ) → BearsCode s c q → (get_or (codes_of s) (q - 1) no_code ≡ c) × (is_same (get_or (codes_of s) (q - 1) no_code) c ≡ true)
  passes q b = (b.same, rw b.same (self_alike c))

  pub found : (i : ℕ) → position (λ d. is_same d c) (codes_of s) ≡ Some i → CodeFound s c (Some (i + 1))
  found i e =
      let p = position-Some (λ d. is_same d c) (codes_of s) i no_code e in
      let k : i + 1 - 1 ≡ i = omega arith in
      let n = all_codes s full most in
      let within = p.0 in (
        record { from = omega arith; to = omega arith; same = rw k (alike _ _ p.1) },
        λ q less b.
            let f = b.from in
            let no = p.2 (q - 1) (omega arith) in
            let yes = (passes q b).1 in
            cc,
      )

  pub not_found : position (λ d. is_same d c) (codes_of s) ≡ None → CodeFound s c None
  not_found e q b =
      let t = position_or_len (λ d. is_same d c) (codes_of s) in
      ⊎_elim
      (λ (h : t < length (codes_of s)). let o = cond-true (ltb t (length (codes_of s))) (Some t) None (lt-ltb t (length (codes_of s)) h) in cc)
      (λ (h : length (codes_of s) ≤ t).
      let f = b.from in
      let g = b.to in
      let n = all_codes s full most in
      let no = fails_before_first (λ d. is_same d c) (codes_of s) (q - 1) no_code (omega arith) in
      let yes = (passes q b).1 in
      cc)
      (cases_lt t (length (codes_of s)))

-- the first of a list of plain numbers that counts on from k
module _ (c : MonthCode) (cs : List MonthCode) (k : ℕ) (plain : c.leap ≡ false) where
  counts_first : (n : ℕ) → plain_numbers (c ∷ cs) ≡ counted k n → (m : ℕ) × (c.number ≡ k) × (plain_numbers cs ≡ counted (suc k) m)
  counts_first zero e =
      let f : c.number ∷ plain_numbers cs ≡ [] = sym (cond-false c.leap (plain_numbers cs) (c.number ∷ plain_numbers cs) plain) ∙ e in
      cc
  counts_first (suc m) e =
      let f : c.number ∷ plain_numbers cs ≡ k ∷ counted (suc k) m = sym (cond-false c.leap (plain_numbers cs) (c.number ∷ plain_numbers cs) plain) ∙ e in
      (m, cc, cc)

-- plain codes that count on from k have no number below k
counts_from : (cs : List MonthCode) (k n : ℕ) → plain_numbers cs ≡ counted k n → (i : ℕ) → i < length cs → (get_or cs i no_code).leap ≡ false → k ≤ (get_or cs i no_code).number
counts_from [] k n e i h p = absurd (not-suc-le-zero h)
counts_from (c ∷ cs) k n e zero h p = let f = counts_first c cs k p n e in let g = f.1 in omega arith
counts_from (c ∷ cs) k n e (suc i) h p =
    ⊎_elim
    (λ (l : c.leap ≡ true).
    counts_from cs k n (sym (cond-true c.leap (plain_numbers cs) (c.number ∷ plain_numbers cs) l) ∙ e) i (le_of_suc-le-suc h) p)
    (λ (l : c.leap ≡ false).
    let f = counts_first c cs k l n e in
    let g = counts_from cs (suc k) f.0 f.2 i (le_of_suc-le-suc h) p in
    omega arith)
    (cases_Bool c.leap)

-- and they rise
counts_up : (cs : List MonthCode) (k n : ℕ) → plain_numbers cs ≡ counted k n → (i j : ℕ) → i < j → j < length cs → (get_or cs i no_code).leap ≡ false → (get_or cs j no_code).leap ≡ false → (get_or cs i no_code).number < (get_or cs j no_code).number
counts_up [] k n e i j h g p q = absurd (not-suc-le-zero g)
counts_up (c ∷ cs) k n e i zero h g p q = absurd (not-suc-le-zero h)
counts_up (c ∷ cs) k n e zero (suc j) h g p q =
    let f = counts_first c cs k p n e in
    let b = counts_from cs (suc k) f.0 f.2 j (le_of_suc-le-suc g) q in
    let s = f.1 in
    omega arith
counts_up (c ∷ cs) k n e (suc i) (suc j) h g p q =
    ⊎_elim
    (λ (l : c.leap ≡ true).
    counts_up cs k n (sym (cond-true c.leap (plain_numbers cs) (c.number ∷ plain_numbers cs) l) ∙ e) i j (le_of_suc-le-suc h) (le_of_suc-le-suc g) p q)
    (λ (l : c.leap ≡ false).
    let f = counts_first c cs k l n e in
    counts_up cs (suc k) f.0 f.2 i j (le_of_suc-le-suc h) (le_of_suc-le-suc g) p q)
    (cases_Bool c.leap)

module _ (a : Almanac) (l : Lawful a) (y : ℕ) (f : Answered a y) where
  codes_length : length (codes_of (a.sheet y)) ≡ (a.sheet y).months
  codes_length =
      let t = (l.thirteen y).all_codes in
      simp length-take (⊎_elim (λ e. omega arith) (λ e. omega arith) (l.months y f))

  plain_once : (p q : ℕ) → 1 ≤ p → p ≤ (a.sheet y).months → 1 ≤ q → q ≤ (a.sheet y).months → (code_at (a.sheet y) p).leap ≡ false → (code_at (a.sheet y) q).leap ≡ false → (code_at (a.sheet y) p).number ≡ (code_at (a.sheet y) q).number → p ≡ q
  plain_once p q pf pt qf qt pp qp e =
      let n = codes_length in
      let up = counts_up (codes_of (a.sheet y)) 1 a.top (l.plain_codes y f) in
      ⊎_elim (λ (s : p - 1 ≡ q - 1). omega arith)
      (⊎_elim (λ (s : p - 1 < q - 1). let u = up (p - 1) (q - 1) s (omega arith) pp qp in omega arith)
      (λ (s : q - 1 < p - 1). let u = up (q - 1) (p - 1) s (omega arith) qp pp in omega arith))
      (cases_order (p - 1) (q - 1))

  pub code_once : (c : MonthCode) (p q : ℕ) → BearsCode (a.sheet y) c p → BearsCode (a.sheet y) c q → p ≡ q
  code_once c p q b d =
      let pf = b.from in
      let pt = b.to in
      let qf = d.from in
      let qt = d.to in
      let e : (code_at (a.sheet y) p).number ≡ (code_at (a.sheet y) q).number = ap (λ (x : MonthCode). x.number) (b.same ∙ sym d.same) in
      let le : (code_at (a.sheet y) p).leap ≡ (code_at (a.sheet y) q).leap = ap (λ (x : MonthCode). x.leap) (b.same ∙ sym d.same) in
      ⊎_elim
      (λ (t : (code_at (a.sheet y) p).leap ≡ true).
      let u = l.leap_codes y p f pf pt t in
      let v = l.leap_codes y q f qf qt (sym le ∙ t) in
      let us = u.second in
      let vs = v.second in
      let s = plain_once (p - 1) (q - 1) (omega arith) (omega arith) (omega arith) (omega arith) u.after_plain v.after_plain (u.same_number ∙ e ∙ sym v.same_number) in
      omega arith)
      (λ (t : (code_at (a.sheet y) p).leap ≡ false). plain_once p q pf pt qf qt t (sym le ∙ t) e)
      (cases_Bool (code_at (a.sheet y) p).leap)
