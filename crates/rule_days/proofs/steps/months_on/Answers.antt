-- Without these the check leaves the goals open: they are lemmas of lawful calendars.
use Rattle.std.proofs.Common.{ℕ, ◌+◌, sym, arith}
use Rattle.calendar.specs.Sheets.{Answered}
use Rattle.rule_days.proofs.Stepping.{same_year, next_year, none_further}
use Rattle.rule_days.proofs.steps.months_on.Goals as goal
use Rattle.rule_days.proofs.steps.months_on.Goals.{then-place-months, else-place-months+in_ok-year}

pub returns-then-months-eq0 : goal.returns-then-months-eq0
returns-then-months-eq0 g c =
    let a = g.C.Sheets.meaning c.args.calendar.now in
    let e = c.loop-i.invariant.1 in
    let none : Answered a c.loop-i.year → ⊥ = (λ h. omega arith) in
    none_further a _ (c.loop-i.year, c.loop-i.place) c.loop-i._i c.loop-i.invariant.0 c.args.count (omega arith) none

pub returns-in_err-year : goal.returns-in_err-year
returns-in_err-year g c =
    let a = g.C.Sheets.meaning c.args.calendar.now in
    let y = c.loop-i.year in
    let i = c.loop-i._i in
    let e = c.loop-i.invariant.1 in
    let next = next_year a (c.args.year, c.args.place) (y, c.loop-i.place) i c.loop-i.invariant.0 (omega arith) in
    let none : Answered a (y + 1) → ⊥ =
    (λ h.
    let few = (g.met.C.Sheets.lawful c.args.calendar.now).numbered (y + 1) h in
    c.in_err-year.ensures (omega arith)) in
    rw c.from_residual.ensures (none_further a _ (y + 1, 1) (i + 1) (sym next) c.args.count (omega arith) none)

pub loop-i-preserved : goal.loop-i-preserved
loop-i-preserved g c =
    let a = g.C.Sheets.meaning c.args.calendar.now in
    let m : ℕ × ℕ = (c.args.year, c.args.place) in
    let here : ℕ × ℕ = (c.loop-i.year, c.loop-i.place) in
    let at = c.loop-i.invariant.0 in
    let e = c.loop-i.invariant.1 in
    elim c.if-place-months.branch [
      | then-place-months w ↦ let next = same_year a m here c.loop-i._i at (omega arith) in (cc, cc)
      | else-place-months+in_ok-year w ↦
          let next = next_year a m here c.loop-i._i at (omega arith) in
          let later = w.in_ok-year.ensures.1 in
          (cc, cc)
    ]
