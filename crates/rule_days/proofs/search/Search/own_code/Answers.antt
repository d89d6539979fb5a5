use Rattle.std.proofs.Common.{sym, subst}
use Rattle.calendar.proofs.Years.{stands_within}
use Rattle.rule_months.specs.Filling.{Usable}
use Rattle.rule_days.proofs.Sized.{usable_sheet}
use Rattle.rule_days.proofs.search.Search.own_code.Goals as goal

pub invariant_of-year : goal.invariant_of-year
invariant_of-year g c =
    let a = g.C.Sheets.meaning c.args.self.now.calendar.now in
    let l = g.met.C.Sheets.lawful c.args.self.now.calendar.now in
    let w = stands_within _ _ _ _ _ c.args.self.now.dated in
    record { usable = usable_sheet a l c.args.self.now.date.0 w.answered _ c.sheet.ensures }
