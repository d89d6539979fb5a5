-- The check does not find these: the law at each point, and what one more call leads to, by lemmas of Telling.
use Rattle.std.proofs.Common.{◌≡◌, ◌+◌, ◌<◌, ◌≤◌, ℕ, List, length, drop, set, ◌⊎◌, inl, inr, sym, refl, ap, ◌∙◌, subst, ⊎_elim, arith}
use Rattle.std.proofs.lemmas.Bool.{cases_lt}
use Rattle.std.proofs.lemmas.List.{drop-set-lt, drop-drop}
use Rattle.runs.specs.Runs.{told}
use Rattle.runs.specs.Law.{Law}
use Rattle.plan.specs.Plans.{lent, places, fresh_plan, Stands}
use Rattle.plan.proofs.Past.{untouched_chain}
use Rattle.plan.proofs.Telling.{told_before, told_next}
use Rattle.plan.proofs.performing.perform.Goals as goal

pub loop-i-init : goal.loop-i-init
loop-i-init g c =
    let shelf = g.S.Shelf.held c.args.shelf.now in
    let st = c.in_ok-plan.ensures.stands shelf c.args.tables.now in
    record {
      law = λ n h. let none : 0 ≡ n = omega (arith, h) in subst (λ k. Law shelf c.args.first c.args.last (places c.args.tables.now) (told c.args.calls.now c.args.answers.now k)) none st.law;
      stands = st;
      untouched = record { more_series = omega arith; more_faults = omega arith; series = refl; faults = refl; queue = refl };
      beyond = refl;
    }

earlier_or_now : (i n : ℕ) → n ≤ i + 1 → (n ≤ i) ⊎ (i + 1 ≡ n)
earlier_or_now i n h = ⊎_elim (λ lt. inl (omega (arith, lt))) (λ ge. inr (omega (arith, ge, h))) (cases_lt n (i + 1))

drop_further : {X : Type 0} (i : ℕ) (xs ys : List X) → drop i xs ≡ drop i ys → drop (i + 1) xs ≡ drop (i + 1) ys
drop_further i xs ys e = sym (drop-drop 1 i xs) ∙ ap (drop 1) e ∙ drop-drop 1 i ys

pub loop-i-preserved : goal.loop-i-preserved
loop-i-preserved g c =
    let l = c.loop-i in
    let shelf = g.S.Shelf.held c.args.shelf.now in
    let calls = c.args.calls.now in
    let room = places c.args.tables.now in
    let i = l.i in
    let answer = c.make.result in
    let within : (i < length calls) × (i < length l.answers) = (omega (arith, c.loop-i-test.true, c.min-i-end.ensures), omega (arith, c.loop-i-test.true, c.min-i-end.ensures, l.auto.answers)) in
    let led = subst (λ run. Stands shelf c.args.first c.args.last room run (lent c.make.new.self c.make.new.tables)) (sym (told_next calls l.answers i answer _ within.0 within.1))
    (c.make.ensures.leads c.args.first c.args.last room (told calls l.answers i) l.invariant.stands) in
    record {
      law = λ n h. ⊎_elim
          (λ before. subst (Law shelf c.args.first c.args.last room) (sym (told_before calls l.answers i answer n before)) (l.invariant.law n before))
          (λ now. subst (λ k. Law shelf c.args.first c.args.last room (told calls (set l.answers i answer) k)) now led.law)
          (earlier_or_now i n h);
      stands = led;
      untouched = untouched_chain (lent (fresh_plan c.args.first c.args.last) c.args.tables.now) (lent l.plan l.tables) (lent c.make.new.self c.make.new.tables) l.invariant.untouched c.make.ensures.untouched;
      beyond = drop-set-lt (i + 1) l.answers i answer (omega arith) ∙ drop_further i l.answers c.args.answers.now l.invariant.beyond;
    }
