-- Over a lawful almanac the search for a day's date finds its date, and none only if it has none.
-- The library has no calendars and no periods, so these lemmas are our own.
use Rattle.std.proofs.Common.{◌≡◌, ℕ, ◌+◌, ◌-◌, ◌<◌, ◌≤◌, true, false, ltb, leb, length, Some, None, Option, refl, ap, ◌∙◌, subst, arith, length-take}
use Rattle.std.proofs.lemmas.Bool.{and_parts, and_from, and_right, leb-true, ltb-true, le-leb, lt-ltb, le-ltb}
use Rattle.days.proofs.Totals.{before_later}
use Rattle.calendar.specs.Sheets.{Almanac, Stands, Within, Dated, lengths_of}
use Rattle.calendar.specs.Laws.{Lawful}
use Rattle.calendar.proofs.Years.{stands_within, after_end, months_most}
use Rattle.rules.specs.declared.period.Stretch.{Stretch}
use Rattle.rules.specs.Meaning.{inside, whole_year, month_at, year_of, place_of, Date, date_in, date_of_year, date_of}
use Rattle.rules.proofs.Searching.{first_some, first_found}

-- a date given as three numbers
abbrev pub as_date : Option (ℕ × ℕ × ℕ) → Option Date
as_date (Some t) = Some (record { year = t.0; place = t.1; day = t.2 })
as_date None = None

pub inside_from : (m : Stretch) (n : ℕ) → m.from ≤ n → n < m.from + m.size → inside m n ≡ true
inside_from m n h g = and_from (leb m.from n) (ltb n (m.from + m.size)) (le-leb _ _ h) (lt-ltb _ _ g)

pub inside_bounds : (m : Stretch) (n : ℕ) → inside m n ≡ true → (m.from ≤ n) × (n < m.from + m.size)
inside_bounds m n e =
    let p = and_parts (leb m.from n) (ltb n (m.from + m.size)) e in
    (leb-true m.from n p.0, ltb-true n (m.from + m.size) p.1)

pub past_end : (m : Stretch) (n : ℕ) → m.from + m.size ≤ n → inside m n ≡ false
past_end m n h = and_right (leb m.from n) (ltb n (m.from + m.size)) (le-ltb n (m.from + m.size) h)

module _ (a : Almanac) (l : Lawful a) where
  -- a year's list of lengths has as many as the year has months
  pub lengths_count : (y : ℕ) → length (lengths_of (a.sheet y)) ≡ (a.sheet y).months
  lengths_count y =
      let t = (l.thirteen y).all_lengths in
      let m = months_most a l y in
      simp length-take (omega arith)

  module _ (n : ℕ) where
    -- the year in which a day lies is the one that the search finds
    pub year_found : (y : ℕ) → Within a n y → year_of a n ≡ Some y
    year_found y w =
        let i = l.only y w.answered in
        let f = w.from in
        first_some (λ y. inside (whole_year (a.sheet y)) n) (a.highest + 1 - a.lowest) a.lowest y i.0 (omega arith) (inside_from (whole_year (a.sheet y)) n w.from w.to)
        (λ m h k.
        let e = after_end a l m y (l.answers m h (omega arith)) w.answered k in
        past_end (whole_year (a.sheet m)) n (omega arith))

    pub date_found : (y p d : ℕ) → Stands a n y p d → date_of a n ≡ Some (record { year = y; place = p; day = d })
    date_found y p d s =
        let sh = a.sheet y in
        let ls = lengths_of sh in
        let c = lengths_count y in
        let pf = s.has.place_from in
        let pt = s.has.place_to in
        let df = s.has.day_from in
        let dt = s.has.day_to in
        let e = s.number in
        let found : place_of sh n ≡ Some p =
        first_some (λ p. inside (month_at sh p) n) sh.months 1 p pf (omega arith) (inside_from (month_at sh p) n (omega arith) (omega arith))
        (λ q h k. let b = before_later ls q p h k in past_end (month_at sh q) n (omega arith)) in
        let day : n + 1 - (month_at sh p).from ≡ d = omega arith in
        ap (date_of_year a n) (year_found y (stands_within a n y p d s))
        ∙ ap (date_in y sh n) found
        ∙ ap (λ (x : ℕ). Some (record { year = y; place = p; day = x })) day

    -- a place that the search finds is the day's
    placed : (y p : ℕ) → year_of a n ≡ Some y → place_of (a.sheet y) n ≡ Some p → Stands a n y p (n + 1 - (month_at (a.sheet y) p).from)
    placed y p e f =
        let sh = a.sheet y in
        let g = first_found (λ p. inside (month_at sh p) n) sh.months 1 p f in
        let g1 = g.1 in
        let g2 = g.2 in
        let b = inside_bounds (month_at sh p) n g.0 in
        let b0 = b.0 in
        let b1 = b.1 in
        let c = lengths_count y in
        record {
          has = record { place_from = omega arith; place_to = omega arith; day_from = omega arith; day_to = omega arith };
          number = omega arith;
        }

    some_one : {X : Type 0} {x : X} (P : Type 0) → None ≡ Some x → P
    some_one P e = let z : ◌≡◌ {A = ℕ} 0 1 = cc in absurd (let w : ⊥ = omega arith in w)

    pub date_stands : (t : Date) → date_of a n ≡ Some t → Stands a n t.year t.place t.day
    date_stands t e = by_year (year_of a n) refl e
      where
        by_place : (y : ℕ) (o : Option ℕ) → year_of a n ≡ Some y → place_of (a.sheet y) n ≡ o → date_in y (a.sheet y) n o ≡ Some t → Stands a n t.year t.place t.day
        by_place y None f g h = some_one (Stands a n t.year t.place t.day) h
        by_place y (Some p) f g h =
            let i : record { year = y; place = p; day = n + 1 - (month_at (a.sheet y) p).from } ≡ t = cc in
            subst (λ (x : Date). Stands a n x.year x.place x.day) i (placed y p f g)

        by_year : (o : Option ℕ) → year_of a n ≡ o → date_of_year a n o ≡ Some t → Stands a n t.year t.place t.day
        by_year None f h = some_one (Stands a n t.year t.place t.day) h
        by_year (Some y) f h = by_place y (place_of (a.sheet y) n) f refl h

    date_missing : (o : Option Date) → date_of a n ≡ o → Dated a n None → date_of a n ≡ None
    date_missing None e d = e
    date_missing (Some t) e d = some_one (date_of a n ≡ None) (d.only t.year t.place t.day (date_stands t e))

    pub dated_is : (r : Option (ℕ × ℕ × ℕ)) → Dated a n r → date_of a n ≡ as_date r
    dated_is None d = date_missing (date_of a n) refl d
    dated_is (Some t) d = date_found t.0 t.1 t.2 (d.stands t.0 t.1 t.2 refl)
