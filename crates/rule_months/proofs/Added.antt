-- Days added to a queue: nothing, one day, one after another, and tests that say the same.
use Rattle.std.proofs.Common.{◌≡◌, ℕ, ◌+◌, ◌≤◌, Bool, true, false, ◌||◌, ◌&&◌, eqb, sym, refl, ap, ◌∙◌, subst, inl, inr, ⊎_elim, arith}
use Rattle.std.specs.List.{ContainsAt as Has}
use Rattle.std.proofs.lemmas.Bool.{and_right, cases_Bool, eqb-true, eq-eqb, or_cases, or_left, or_right, both_ways}
use Rattle.queue.specs.Lent.{Holding, Added}
use Rattle.queue.proofs.Members.{with_itself, with_keeps, with_only}
use Rattle.rule_months.specs.Filling.{Adds}

-- nothing is added
pub adds_none : (q : Holding ℕ) (m : ℕ) (f : ℕ → Bool) → ((n : ℕ) → f n ≡ false) → Adds q q m f
adds_none q m f none =
    record {
      few = omega arith;
      places = refl;
      kept = λ n a. a;
      added = λ n t. absurd (both_ways (f n) (none n) t);
      only = λ n a. inl a;
    }

-- one day is added
pub adds_one : (old new : Holding ℕ) (d : ℕ) (f : ℕ → Bool) → Added d old new → ((n : ℕ) → f n ≡ eqb n d) → Adds old new 1 f
adds_one old new d f x one =
    let sh = x.entries in
    record {
      few = omega (arith, x.count);
      places = x.places;
      kept = with_keeps d old.entries new.entries sh;
      added = λ n t. let e : n ≡ d = eqb-true n d (sym (one n) ∙ t) in subst (Has new.entries) (sym e) (with_itself d old.entries new.entries sh);
      only = λ n a. ⊎_elim (λ e. inr (one n ∙ eq-eqb n d (sym e))) (λ b. inl b) (with_only d old.entries new.entries sh n a);
    }

-- first these, then those
pub adds_both : (old mid new : Holding ℕ) (m k : ℕ) (f g : ℕ → Bool) → Adds old mid m f → Adds mid new k g → Adds old new (m + k) (λ n. f n || g n)
adds_both old mid new m k f g x y =
    let a = x.few in
    let b = y.few in
    record {
      few = omega arith;
      places = y.places ∙ x.places;
      kept = λ n h. y.kept n (x.kept n h);
      added = λ n t. ⊎_elim (λ p. y.kept n (x.added n p)) (λ p. y.added n p) (or_cases (f n) (g n) t);
      only = λ n h. ⊎_elim (λ p. ⊎_elim (λ q. inl q) (λ q. inr (or_left (f n) (g n) q)) (x.only n p)) (λ p. inr (or_right (f n) (g n) p)) (y.only n h);
    }

-- the same days by another test, and more room
pub adds_same : (old new : Holding ℕ) (m k : ℕ) (f g : ℕ → Bool) → m ≤ k → ((n : ℕ) → f n ≡ g n) → Adds old new m f → Adds old new k g
adds_same old new m k f g h e x =
    let a = x.few in
    record {
      few = omega arith;
      places = x.places;
      kept = x.kept;
      added = λ n t. x.added n (e n ∙ t);
      only = λ n p. ⊎_elim (λ q. inl q) (λ q. inr (sym (e n) ∙ q)) (x.only n p);
    }

-- a limit on the one day is a limit on each
pub limit_one : (p : ℕ → Bool) (n d : ℕ) → (p d && eqb n d) ≡ (p n && eqb n d)
limit_one p n d =
    ⊎_elim (λ (t : eqb n d ≡ true). let e : n ≡ d = eqb-true n d t in ap (λ (k : ℕ). p k && eqb n d) (sym e))
    (λ (t : eqb n d ≡ false). and_right (p d) (eqb n d) t ∙ sym (and_right (p n) (eqb n d) t))
    (cases_Bool (eqb n d))
