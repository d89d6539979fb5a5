-- The sheets of a lawful calendar are of a usable size.
-- The library has no calendars and no periods, so these lemmas are our own.
use Rattle.std.proofs.Common.{◌≡◌, ℕ, ◌+◌, ◌-◌, sym, subst, arith}
use Rattle.calendar.specs.declared.sheet.Sheet.{Sheet}
use Rattle.calendar.specs.Sheets.{Almanac, Answered, days_of}
use Rattle.calendar.specs.Laws.{Lawful}
use Rattle.calendar.proofs.Years.{months_most}
use Rattle.rule_months.specs.Filling.{Usable}
use Rattle.rules.proofs.Bounds.{month_end, size_some}

pub usable : (a : Almanac) → Lawful a → (y : ℕ) → Answered a y → Usable (a.sheet y)
usable a l y f =
    let d = l.year_days y f in
    let first = l.in_span (a.sheet y).first y (record { answered = f; from = omega arith; to = omega arith }) in
    let last = l.in_span ((a.sheet y).first + days_of (a.sheet y) - 1) y (record { answered = f; from = omega arith; to = omega arith }) in
    record {
      months = months_most a l y;
      first = first.to;
      year = d.1;
      from = λ p h k.
          let e = month_end a l y p h k in
          let z = size_some a l y p h k in
          let t = last.to in
          omega arith;
      size = λ p h k. (l.month_days y p f h k).1;
    }

-- the same of a sheet that was asked for
pub usable_sheet : (a : Almanac) → Lawful a → (y : ℕ) → Answered a y → (s : Sheet) → s ≡ a.sheet y → Usable s
usable_sheet a l y f s e = subst Usable (sym e) (usable a l y f)
