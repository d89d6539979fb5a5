use Rattle.std.proofs.Common.{◌≡◌, ℕ, refl, arith}
use Rattle.rules.proofs.Given.{date_in_range}
use Rattle.rule_days.proofs.source.RuleDaysSource.next.Goals as goal

pub returns-in_err-date : goal.returns-in_err-date
returns-in_err-date g c =
    rw c.from_residual.ensures
    (λ e d late.
    let t = date_in_range _ (g.met.C.Sheets.lawful c.args.self.now.calendar.now) c.args.self.now.start c.requires in
    let some = c.in_err-date.ensures.only t.0.year t.0.place t.0.day t.1 in
    let none = c.in_err-date.was in
    let z : ◌≡◌ {A = ℕ} 0 1 = cc in
    omega arith)

pub invariant_of-search : goal.invariant_of-search
invariant_of-search g c = record { ranged = c.requires; dated = c.in_ok-date.ensures.stands _ _ _ refl }
