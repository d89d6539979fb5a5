-- The consequences of the laws.
use Rattle.std.proofs.Common.{◌≡◌, ℕ, ◌+◌, ◌-◌, ◌<◌, ◌≤◌, length, take, sym, ap, ◌∙◌, subst, ⊎_elim, arith, lit≤, length-take}
use Rattle.std.proofs.lemmas.List.{take_all}
use Rattle.days.specs.Months.{Has, total, before, length_at}
use Rattle.days.proofs.Totals.{before_next, falls_somewhere}
use Rattle.calendar.specs.Sheets.{Almanac, Answered, Stands, lengths_of}
use Rattle.calendar.specs.Laws.{Lawful, Covered}
use Rattle.calendar.specs.Consequences.{OneDate, FromTheLaws, ShutOut}
use Rattle.calendar.proofs.Years.{stands_within, from_year, one_date}
use Rattle.calendar.proofs.Naming.{sound_lawful}

module _ (a : Almanac) (l : Lawful a) where
  -- a year has the months that its sheet says
  months_length : (y : ℕ) → Answered a y → length (lengths_of (a.sheet y)) ≡ (a.sheet y).months
  months_length y f =
      let t = (l.thirteen y).all_lengths in
      simp length-take (⊎_elim (λ e. omega arith) (λ e. omega arith) (l.months y f))

  a_date : (n : ℕ) → Covered n → OneDate a n
  a_date n c =
      let w = l.covers n c in
      let y = w.0 in
      let i = w.1 in
      let h = i.from in
      let k = i.to in
      let f = falls_somewhere (lengths_of (a.sheet y)) (n - (a.sheet y).first) (omega arith) in
      let s = from_year a n y f.0 f.1 h f.2 in
      record { year = y; place = f.0; day = f.1; stands = s; only = λ z p d t. one_date a l n y f.0 f.1 z p d s t }

  first_of : (y p : ℕ) → Answered a y → 1 ≤ p → p ≤ (a.sheet y).months → Has (lengths_of (a.sheet y)) p 1
  first_of y p f h k =
      let m = months_length y f in
      record { place_from = h; place_to = omega arith; day_from = omega arith; day_to = (l.month_days y p f h k).0 }

  months : (n y p : ℕ) → Stands a n y p (length_at (lengths_of (a.sheet y)) p) → p < (a.sheet y).months → Stands a (n + 1) y (p + 1) 1
  months n y p s h =
      let b = before_next (lengths_of (a.sheet y)) p s.has.place_from in
      let e = s.number in
      let d = s.has.day_from in
      record { has = first_of y (p + 1) (stands_within a n y p _ s).answered (omega arith) (omega arith); number = omega arith }

  years : (n y : ℕ) → Stands a n y (a.sheet y).months (length_at (lengths_of (a.sheet y)) (a.sheet y).months) → Answered a (y + 1) → Stands a (n + 1) (y + 1) 1 1
  years n y s g =
      let f = (stands_within a n y (a.sheet y).months _ s).answered in
      let ls = lengths_of (a.sheet y) in
      let b = before_next ls (a.sheet y).months (omega arith) in
      let m = months_length y f in
      let i : (a.sheet y).months + 1 - 1 ≡ length ls = omega arith in
      let whole : before ls ((a.sheet y).months + 1) ≡ total ls = ap (λ (k : ℕ). total (take k ls)) i ∙ ap total (take_all (length ls) ls (omega arith)) in
      let j = l.meets y f g in
      let e = s.number in
      let d = s.has.day_from in
      record { has = first_of (y + 1) 1 g (omega arith) (omega arith); number = omega arith }

pub given : FromTheLaws
given =
    record {
      one_date_a_day = a_date;
      one_day_a_date = λ a n m y p d s t. s.number ∙ sym t.number;
      months_meet = months;
      years_meet = years;
      codes_apart = λ a l. (sound_lawful a l).code_once;
    }

earliest : Covered 693384
earliest = record { from = lit≤ tt; to = lit≤ tt }

latest : Covered 803616
latest = record { from = lit≤ tt; to = lit≤ tt }

pub shut_out : ShutOut
shut_out =
    record {
      no_years = λ a none l. let w = l.covers 693384 earliest in none w.0 w.1.answered;
      one_year = λ a x only l.
          let v = l.covers 693384 earliest in
          let w = l.covers 803616 latest in
          let i : v.0 ≡ w.0 = only v.0 v.1.answered ∙ sym (only w.0 w.1.answered) in
          let t = subst (λ (y : ℕ). (a.sheet y).first ≤ 693384) i v.1.from in
          let b = l.year_days w.0 w.1.answered in
          let u = w.1.to in
          omega arith;
      no_date = λ a l n c d.
          let o = a_date a l n c in
          let e = d.only o.year o.place o.day o.stands in
          cc;
    }
