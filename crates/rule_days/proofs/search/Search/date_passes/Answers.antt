use Rattle.std.proofs.Common.{◌≡◌, ◌&&◌, Some, None, sym, refl, ap, ◌∙◌, subst, arith}
use Rattle.calendar.specs.declared.sheet.Sheet.{Sheet}
use Rattle.calendar.specs.Sheets.{code_at}
use Rattle.calendar.proofs.Years.{stands_within}
use Rattle.calendar.proofs.Naming.{month_of}
use Rattle.rules.specs.Meaning.{month_at, code_passes, value_passes, date_passes}
use Rattle.rule_months.specs.Filling.{Usable}
use Rattle.rule_days.proofs.Sized.{usable_sheet}
use Rattle.rules.proofs.Dated.{dated_is}
use Rattle.rule_days.proofs.search.Search.date_passes.Goals as goal

pub invariant_of-passes_in : goal.invariant_of-passes_in
invariant_of-passes_in g c =
    let a = g.C.Sheets.meaning c.args.self.now.calendar.now in
    let l = g.met.C.Sheets.lawful c.args.self.now.calendar.now in
    let y = c.in-Some.year in
    let m = month_of a c.args.day y c.in-Some.place c.in-Some.date (c.in-Some.ensures.stands _ _ _ refl) in
    let e : c.sheet.result.months ≡ (a.sheet y).months = ap (λ (s : Sheet). s.months) c.sheet.ensures in
    record { placed = (m.0, omega arith) }

pub invariant_of-year : goal.invariant_of-year
invariant_of-year g c =
    let a = g.C.Sheets.meaning c.args.self.now.calendar.now in
    let l = g.met.C.Sheets.lawful c.args.self.now.calendar.now in
    let w = stands_within _ _ _ _ _ (c.in-Some.ensures.stands _ _ _ refl) in
    record { usable = usable_sheet a l c.in-Some.year w.answered _ c.sheet.ensures }

pub returns-in-Some : goal.returns-in-Some
returns-in-Some g c =
    let a = g.C.Sheets.meaning c.args.self.now.calendar.now in
    let l = g.met.C.Sheets.lawful c.args.self.now.calendar.now in
    let r = c.args.self.now.rule.now in
    let p = c.in-Some.place in
    let d = c.in-Some.date in
    c.passes_in.ensures
    ∙ ap (λ (s : Sheet). code_passes r (code_at s p) && value_passes r d (month_at s p).size) c.sheet.ensures
    ∙ sym (ap (date_passes a r) (dated_is a l c.args.day (Some (c.in-Some.year, p, d)) c.in-Some.ensures))

pub returns-in-None : goal.returns-in-None
returns-in-None g c =
    let a = g.C.Sheets.meaning c.args.self.now.calendar.now in
    let l = g.met.C.Sheets.lawful c.args.self.now.calendar.now in
    sym (ap (date_passes a c.args.self.now.rule.now) (dated_is a l c.args.day None c.in-None.ensures))
