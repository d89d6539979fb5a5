-- What a push and a pop leave of the heads, and what the first head is.
use Rattle.std.proofs.Common.{◌≡◌, ℕ, ◌+◌, ◌-◌, ◌<◌, ◌≤◌, Bool, true, tests, List, [], ◌∷◌, length, take, sym, refl, ap, ◌∙◌, subst, ⊎_elim, arith}
use Rattle.std.specs.List.Sorted.{IsPermutation}
use Rattle.std.proofs.lemmas.Bool.{cases_eq}
use Rattle.std.proofs.lemmas.List.{length-take-le}
use Rattle.std.proofs.lemmas.List.Elements.{All-cons, All-head, All-tail, at_from_Contains}
use Rattle.std.proofs.lemmas.List.Sorted.{All-permutation, Contains-permutation}
use Rattle.days.specs.Numbers.{in_range}
use Rattle.queue.specs.Heap.{Heaped, Taken}
use Rattle.owed.specs.declared.line.Line.{Line}
use Rattle.owed.specs.Lines.{precedes, Before, NotAfter}
use Rattle.owed.specs.Owed.{series_gives, GivenBy, owed}
use Rattle.owed.proofs.Lists.{contains_first, contains_later, contains_cases}
use Rattle.owed.proofs.Order.{not_after_from}
use Rattle.owed.proofs.Owing.{first_owed, none_owed}
use Rattle.heads.specs.Heads.{SoonestLine, heads_of, Ahead, Heads}
use Rattle.heads.proofs.Counts.{heads_yes, heads_no, heads_permuted}

ahead_permuted : (l : Line) (xs ys : List Line) → IsPermutation xs ys → Ahead l xs → Ahead l ys
ahead_permuted l xs ys s a = (a.0, Contains-permutation xs ys a.0 s a.1, a.2, a.3)

in_window : {first last d : ℕ} → in_range first ≡ true → in_range last ≡ true → first ≤ d → d ≤ last → in_range d ≡ true
in_window {first} {last} {d} opens closes a b = grind (arith, tests)

module _ (first last : ℕ) (sets : List (ℕ → Bool)) (mark : Line) where
  abbrev Given : Line → Type 0
  Given = GivenBy first last sets

  module _ (queue : List Line) (queued : ℕ) (heads : Heads first last sets mark queue queued 0) where
    ahead_of : (l : Line) → Given l → Before mark l → Ahead l (take queued queue)
    ahead_of l g b = heads.covers l g b (λ e. omega (arith, g.from_one, e))

    -- no line is owed where there is no head
    pub no_head : queued ≡ 0 → owed first last sets mark ≡ []
    no_head none = none_owed first last sets mark
        (λ l g b. omega (arith, (ahead_of l g b).1.1, length-take-le queued queue heads.within))

  -- the heads `old` and `new`, of which one place less or more is in use
  module _ (old new : List Line) (queued : ℕ) (x : Line) (long : length new ≡ length old) where
    -- x was taken out, the least of the heads
    module _ (heads : Heads first last sets mark old queued 0) (taken : Taken precedes queued old new x) where
      abbrev rest : List Line
      rest = take (queued - 1) new

      pub head_given : Given x
      head_given = All-head Given x rest (All-permutation Given (take queued old) (x ∷ rest) taken.others heads.lines)

      pub heads_popped : (Heaped precedes old queued → Heaped precedes new (queued - 1)) → Heads first last sets mark new (queued - 1) x.series
      heads_popped heaped = record {
        ranged = heads.ranged;
        marked = heads.marked;
        within = omega (arith, heads.within);
        heaped = heaped heads.heaped;
        lines = All-tail Given x rest (All-permutation Given (take queued old) (x ∷ rest) taken.others heads.lines);
        single = λ number. ⊎_elim
            (λ e. omega (arith, heads_yes number x rest e, heads_permuted number (take queued old) (x ∷ rest) taken.others, heads.single number))
            (λ e. omega (arith, heads_no number x rest e, heads_permuted number (take queued old) (x ∷ rest) taken.others, heads.single number))
            (cases_eq x.series number);
        gone = λ _. omega (arith, heads_yes x.series x rest refl, heads_permuted x.series (take queued old) (x ∷ rest) taken.others, heads.single x.series);
        covers = λ l g b other.
            let a = ahead_permuted l (take queued old) (x ∷ rest) taken.others (ahead_of old queued heads l g b) in
            (a.0, ⊎_elim (λ e. absurd (other (sym a.2 ∙ ap (λ (z : Line). z.series) (sym e)))) (λ c. c) (contains_cases x a.0 rest a.1), a.2, a.3);
      }

      -- it is not after any line that is owed
      least_head : (l : Line) → Given l → Before mark l → NotAfter x l
      least_head l g b =
          let a = ahead_of old queued heads l g b in
          let le : NotAfter x a.0 = not_after_from x a.0 ((taken.least heads.heaped).first a.0 (at_from_Contains (take queued old) a.0 a.1)) in
          let number : a.0.series ≡ l.series = a.2 in
          let day : a.0.day ≤ l.day = a.3 in
          (omega (arith, le.0, day), λ e. let same : x.day ≡ a.0.day = omega (arith, le.0, day, e) in omega (arith, le.1 same, number))

      -- so it is the first line that is owed, if it is after the mark
      pub head_first : Before mark x → owed first last sets mark ≡ x ∷ owed first last sets x
      head_first after = first_owed first last sets mark x head_given after least_head

    -- x was put in, a line that is not after any other of its series after the mark
    heads_pushed : Heads first last sets mark old queued x.series → queued < length old → Given x
        → ((l : Line) → Given l → Before mark l → l.series ≡ x.series → x.day ≤ l.day)
        → IsPermutation (x ∷ take queued old) (take (queued + 1) new) → Heaped precedes new (queued + 1)
        → Heads first last sets mark new (queued + 1) 0
    heads_pushed heads room given least s heaped =
        let rest = take queued old in
        let all = take (queued + 1) new in
        record {
          ranged = heads.ranged;
          marked = heads.marked;
          within = omega (arith, room, long);
          heaped = heaped;
          lines = All-permutation Given (x ∷ rest) all s (All-cons Given x rest given heads.lines);
          single = λ number. ⊎_elim
              (λ e.
              let none : heads_of number rest ≡ 0 = subst (λ m. heads_of m rest ≡ 0) e (heads.gone given.from_one) in
              omega (arith, heads_yes number x rest e, heads_permuted number (x ∷ rest) all s, none))
              (λ e. omega (arith, heads_no number x rest e, heads_permuted number (x ∷ rest) all s, heads.single number))
              (cases_eq x.series number);
          gone = λ z. absurd (omega (arith, z));
          covers = λ l g b _. ahead_permuted l (x ∷ rest) all s (⊎_elim
              (λ e. (x, contains_first x rest, sym e, least l g b e))
              (λ other. let a = heads.covers l g b other in (a.0, contains_later x a.0 rest a.1, a.2, a.3))
              (cases_eq l.series x.series));
        }

    -- x was put in, the first line after the mark of the series that has no head
    pub heads_refilled : (number : ℕ) → Heads first last sets mark old queued number → queued < length old → 1 ≤ number → number ≤ length sets
        → SoonestLine (series_gives sets number) number mark last x
        → IsPermutation (x ∷ take queued old) (take (queued + 1) new) → Heaped precedes new (queued + 1)
        → Heads first last sets mark new (queued + 1) 0
    heads_refilled number heads room one loaded soonest s heaped =
        let set = series_gives sets number in
        let e : x.series ≡ number = soonest.of_series in
        heads_pushed (subst (Heads first last sets mark old queued) (sym e) heads) room
        (record {
          from_one = omega (arith, e, one);
          loaded = omega (arith, e, loaded);
          opens = omega (arith, heads.marked, soonest.after.0);
          closes = soonest.closes;
          gives = subst (λ n. series_gives sets n x.day ≡ true) (sym e) soonest.day.on;
        })
        (λ l g b same.
        let f : l.series ≡ number = same ∙ e in
        soonest.least l.day
        (record { ranged = in_window heads.ranged.0 heads.ranged.1 g.opens g.closes; on = subst (λ n. series_gives sets n l.day ≡ true) f g.gives })
        (b.0, λ d. omega (arith, f, b.1 d)))
        s heaped
